-- Stage C as it is found: file after file, up to the first that breaks a rule; and what stages A and B leave known of a file.
use Rattle.std.specs.Prelude.{List, [], ◌≡◌, ℕ, zero, suc, ◌+◌, ◌≤◌, length, Ok}
use Rattle.json_text.specs.Text.{syntax_of}
use Rattle.schema.specs.Shape.{Table}
use Rattle.schema.specs.Tables.{sheet_shape, sheet_of}
use Rattle.fault.specs.Fault.{least}
use Rattle.fault.specs.Outcome.{file_count, outcome_of, or_next, Outcome, unbroken}
use Rattle.judge.specs.Faults.{file_faults}
use Rattle.clean.specs.Clean.{tree_of}
use Rattle.cross.specs.Cross.{Files, cross_faults}
use Rattle.cross.specs.Stage.{Feeds, bytes_of}

-- the first broken rule by what is told of each file: of `left` files from a number on, and of all
unfoldable pub from_file : (ℕ → Outcome) → (file left : ℕ) → Outcome
from_file told file zero = unbroken
from_file told file (suc left) = or_next (told file) (from_file told (file + 1) left)

abbrev pub first_of : (ℕ → Outcome) → Outcome
first_of told = from_file told 1 file_count

-- stage C, by a table
unfoldable pub first_c : Table → Files → Outcome
first_c t s = first_of (λ file. outcome_of file (least (cross_faults t s file)))

-- a file of a sheet is through stages A and B
pub record PassesAB (sheet : ℕ) (s : List ℕ) : Type 0 where
  pub reads : (length s ≡ 0 → ⊥) → syntax_of s ≡ Ok tt
  pub faultless : (length s ≡ 0 → ⊥) → file_faults (sheet_shape sheet) (tree_of s) ≡ []

-- all files of a set are, by the table of a number
abbrev pub AllPassAB : (table : ℕ) → Feeds → Type 0
AllPassAB table s = (file : ℕ) → 1 ≤ file → file ≤ file_count → PassesAB (sheet_of table file) (bytes_of s file)
