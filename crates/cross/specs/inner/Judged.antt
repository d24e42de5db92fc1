-- What the code answers of one record: the least of its broken rules, where the records that it may refer to are known.
use Rattle.std.specs.Prelude.{Bool, not, ◌≡◌, ℕ, ◌*◌, ◌≤◌, ◌<◌, eqb, ltb, length, get_or, Option}
use mathlib.Core.List.{List, [], ◌∷◌, ◌++◌, Memᴰ}
use Rattle.notation.specs.Choice.{◌⇒◌else◌, ◌and◌}
use Rattle.word.specs.Kinds.{sum_differs}
use Rattle.json_text.specs.Tree as tree
use Rattle.json_text.specs.Tree.{Members}
use Rattle.walk.specs.declared.Item.{Item}
use Rattle.walk.specs.Walk.{items_of}
use Rattle.walk.specs.Part.{Whole, part_tree}
use Rattle.walk.proofs.Parts.{item_of}
use Rattle.schema.specs.Tables.{sheets, sheet_of}
use Rattle.schema.specs.inner.RecordLines.{record_lines}
use Rattle.schema.specs.Table23.{available}
use Rattle.schema.specs.Records.{record_shape}
use Rattle.schema.specs.Pick.{Picked, pick}
use Rattle.slots.specs.declared.Slots.{Slots}
use Rattle.slots.specs.inner.Slots.{slot_at, Gathered}
use Rattle.fault.specs.declared.Fault.{Fault}
use Rattle.fault.specs.Fault.{least, faulty}
use Rattle.fault.specs.declared.Place.{Place}
use Rattle.document.specs.inner.Items.{picked_items}
use Rattle.document.specs.Values.{integer_in}
use Rattle.document.specs.inner.Values.{FoundWhole, found_bytes, text_by, there_by, array_by, spelled_by}
use Rattle.ids.specs.References.{kind_if, any, has_capacity, motorized, named, refers, demanded}
use Rattle.ids.specs.inner.Known.{Searchable}
use Rattle.cross.specs.Cross.{File, Files, record_place, sum_of, available_faults}
use Rattle.cross.specs.Stage.{Feeds, bytes_of}

-- every record of the array is an object
abbrev pub Objects : List ℕ → Type 0
Objects p = (m : Item) → Memᴰ m (items_of p) → (ms : Members) × (part_tree (item_of p m) ≡ tree.object ms)

-- the bytes are an object's
abbrev pub Object : List ℕ → Type 0
Object p = (ms : Members) × Whole p (tree.object ms)

-- a file of a sheet by the bytes from its records on: without any it is not there; and all files, by the table of a number
abbrev pub file_by : (sheet : ℕ) → List ℕ → File
file_by sheet p = record { here = ltb 0 (length p); records = picked_items (record_shape sheet) p }

abbrev pub files_by : (table : ℕ) → Feeds → Files
files_by table rs file = file_by (sheet_of table file) (bytes_of rs file)

-- the field of the ids of a file whose records have any, in every table
abbrev pub id_number : (file : ℕ) → ℕ
id_number file = eqb file 8 ⇒ 100 else 10 * file

-- what is asked of a record that a reference names
abbrev pub asked_of : (file : ℕ) → Picked → Bool
asked_of file = eqb file 1 ⇒ motorized else eqb file 2 ⇒ has_capacity else any

-- how many files' notes are lent to those who judge records
abbrev pub lent_count : ℕ
lent_count = 3

-- What is known when the records of a file are judged: those that they may name are noted. The notes of types, stations and plans stand in this order;
-- types name plans alone, and stations regions alone, whose notes stand first.
pub record Known (table file : ℕ) (rs notes : Feeds) : Type 0 where
  pub types : 2 < file → Searchable (sheet_of table 1) (bytes_of rs 1) (get_or notes 0 [])
  pub stations : 2 < file → Searchable (sheet_of table 2) (bytes_of rs 2) (get_or notes 1 [])
  pub plans : (file ≡ 2 → ⊥) → Searchable (sheet_of table 5) (bytes_of rs 5) (get_or notes 2 [])
  pub regions : file ≡ 2 → Searchable (sheet_of table 8) (bytes_of rs 8) (get_or notes 0 [])

-- the notes of one file at every place
abbrev pub alone : List ℕ → Feeds
alone notes = notes ∷ notes ∷ notes ∷ []

-- a file whose records have ids and refer to other records
pub record Referring (file : ℕ) : Type 0 where
  pub least : 1 ≤ file
  pub most : file ≤ 4

-- the slots of a record of a sheet, for the lines of its rows
abbrev pub Slotted : (sheet : ℕ) → List ℕ → Slots → Type 0
Slotted sheet p s = Gathered p (record_lines sheets sheet).first (record_lines sheets sheet).count s

-- q is the value that is read at a slot
abbrev pub Reads : (p : List ℕ) (s : Slots) (row : ℕ) (q : List ℕ) → Type 0
Reads p s row q = FoundWhole p (slot_at s row) → q ≡ found_bytes p (slot_at s row)

-- What fields of a record break, by the bytes of their values: the position of a bike, its type, the docks of a status, and its counts.
abbrev pub position_by : Place → (station lat lon : List ℕ) → List Fault
position_by place station lat lon =
    faulty place 41 (demanded (not (there_by station)) (there_by lat)) ++ faulty place 42 (demanded (not (there_by station)) (there_by lon))

abbrev pub vehicle_by : Place → (types : File) (type range : List ℕ) → List Fault
vehicle_by place types type range =
    faulty place 45 (demanded types.here (there_by type) ++ refers (text_by type) 10 types.records) ++
    faulty place 46 (demanded (named motorized 10 types.records (text_by type)) (there_by range))

abbrev pub docks_by : Place → (stations : File) (station docks : List ℕ) → List Fault
docks_by place stations station docks =
    faulty place 30 (refers (text_by station) 20 stations.records) ++
    faulty place 32 (demanded (named has_capacity 20 stations.records (text_by station)) (there_by docks))

abbrev pub counts_by : ℕ → (types : File) (counts bikes : List ℕ) → List Fault
counts_by n types counts bikes =
    let items = picked_items available (array_by counts) in
    faulty (record_place n 0) 37 (demanded types.here (there_by counts) ++ kind_if (there_by counts and not (eqb (sum_of items) (integer_in (spelled_by bikes)))) sum_differs) ++
    available_faults types.records n 1 items

-- p is an object, and r the least of the rules that it breaks as a record of a sheet
abbrev pub Judges : (sheet : ℕ) (breaks : Picked → List Fault) (p : List ℕ) (r : Option Fault) → Type 0
Judges sheet breaks p r = (ms : Members) → Whole p (tree.object ms) → r ≡ least (breaks (pick (record_shape sheet) (tree.object ms)))
