-- What the code answers of one file and of all, from the arrays of their records: presence, repeated ids and what the records demand.
use Rattle.std.specs.Prelude.{true, List, ◌≡◌, ℕ, ◌≤◌, ◌<◌, length, Option}
use Rattle.word.specs.Kinds.{condition}
use Rattle.schema.specs.Tables.{sheet_of}
use Rattle.schema.specs.Records.{record_shape, has_records, has_ids}
use Rattle.fault.specs.Fault.{least, lesser, top, faulty}
use Rattle.fault.specs.Outcome.{file_count, outcome_of, Outcome}
use Rattle.fault.specs.inner.Narrow.{Narrow}
use Rattle.document.specs.inner.Items.{picked_items}
use Rattle.ids.specs.inner.Ids.{AllIdsOnce}
use Rattle.ids.specs.inner.Notes.{size}
use Rattle.ids.specs.References.{kind_if}
use Rattle.feedset.specs.declared.records.Findings.{Findings}
use Rattle.feedset.specs.declared.stage.Named.{Named}
use Rattle.cross.specs.Cross.{each_record, faults_of, missing_file}
use Rattle.cross.specs.Stage.{Feeds, bytes_of}
use Rattle.cross.specs.inner.Judged.{files_by, Known}
use Rattle.cross.specs.inner.Recorded.{Recorded, repeat_of, ids_least}
use Rattle.cross.specs.inner.Stage.{first_of}
use Rattle.fault.specs.declared.Fault.{Fault}

-- the records of all files of a set that have any are such arrays
abbrev pub AllRecorded : (table : ℕ) → Feeds → Type 0
AllRecorded table rs = (file : ℕ) → 1 ≤ file → file ≤ file_count → has_records (sheet_of table file) ≡ true → Recorded (bytes_of rs file)

-- the name of its ids stands once at most in every record
abbrev pub AllSingle : (table : ℕ) → Feeds → Type 0
AllSingle table rs = (file : ℕ) → 1 ≤ file → file ≤ file_count → has_ids (sheet_of table file) ≡ true → AllIdsOnce (sheet_of table file) (bytes_of rs file)

-- the records p of a sheet can be noted in these numbers
pub record Notable (sheet : ℕ) (p notes : List ℕ) : Type 0 where
  pub recorded : Recorded p
  pub single : AllIdsOnce sheet p
  pub room : length notes ≡ size

-- by the table of a number
module _ (table : ℕ) (rs : Feeds) where
  -- what is found of the records p of a file: the first that repeats an id, and the least of the rules that they break otherwise
  pub record Finds (file : ℕ) (p : List ℕ) (found : Findings) : Type 0 where
    pub repeats : found.repeat ≡ repeat_of (sheet_of table file) p
    pub breaks : found.least ≡ least (each_record (faults_of (files_by table rs) file) 1 (picked_items (record_shape (sheet_of table file)) p))

  abbrev pub Found : ℕ → Findings → Type 0
  Found file found = Finds file (bytes_of rs file) found

  -- the least of a file
  unfoldable pub file_least : ℕ → Option Fault
  file_least file =
      lesser (least (faulty top 0 (kind_if (missing_file (files_by table rs) file) condition)))
      (lesser (ids_least (sheet_of table file) (bytes_of rs file)) (least (each_record (faults_of (files_by table rs) file) 1 (files_by table rs file).records)))

  -- what is told of a file, and the first broken rule of all
  abbrev pub file_outcome : ℕ → Outcome
  file_outcome file = outcome_of file (file_least file)

  abbrev pub set_outcome : Outcome
  set_outcome = first_of file_outcome

  -- a word can have the numbers of the least of each file
  abbrev pub AllNarrow : Type 0
  AllNarrow = (file : ℕ) → 1 ≤ file → file ≤ file_count → Narrow (file_least file)

  -- what is known when the files are judged one after another
  pub record Ready (notes : Feeds) (named : Named) : Type 0 where
    pub known : (file : ℕ) → 2 < file → Known table file rs notes
    pub recorded : AllRecorded table rs
    pub single : AllSingle table rs
    pub narrow : AllNarrow
    pub types : Found 1 named.types
    pub stations : Found 2 named.stations
    pub plans : Found 5 named.plans
    pub regions : Found 8 named.regions
