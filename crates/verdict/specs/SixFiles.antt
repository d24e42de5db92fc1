-- Document 02's request W1 adds rules and takes none away: each rule that the six older files break by the rules of before stands among those that
-- their stage breaks now. So a set that is accepted was accepted before. `proofs/SixFiles` shows it.
use mathlib.Core.List.{List, [], ◌∷◌, ◌++◌, map, Memᴰ}
use Rattle.std.specs.Prelude.{◌≡◌, ℕ, eqb}
use Rattle.notation.specs.Choice.{◌⇒◌else◌}
use Rattle.word.specs.Kinds.{condition}
use Rattle.word.specs.declared.Parts.{Parts}
use Rattle.schema.specs.Shape as shape
use Rattle.schema.specs.Shape.{Shape, Rows, Table, file_shape}
use Rattle.schema.specs.Pick.{Picked}
use Rattle.rings.specs.Rings.{coordinates_found}
use Rattle.fault.specs.declared.Fault.{Fault}
use Rattle.fault.specs.Fault.{top, faulty}
use Rattle.fault.specs.Outcome.{fault_parts}
use Rattle.judge.specs.Faults.{file_faults}
use Rattle.clean.specs.Clean.{tree_of, repeats_in}
use Rattle.ids.specs.References.{kind_if}
use Rattle.cross.specs.Cross.{Files, each_record, faults_of, missing_file}
use Rattle.cross.specs.Stage.{Feeds, bytes_of, picked}
use Rattle.verdict.specs.Verdict.{rules_a, each_from, stage_a, stage_b_by, stage_c, or_else, broken_rules}

-- a shape without the rows of a field; coordinates have no rows
unfoldable mutual
  pub without : ℕ → Shape → Shape
  without f shape.unlisted = shape.unlisted
  without f (shape.scalar sort) = shape.scalar sort
  without f (shape.array shape.records most σ) = shape.array shape.records most (without f σ)
  without f (shape.array shape.subs most σ) = shape.array shape.subs most (without f σ)
  without f (shape.array shape.outer most σ) = shape.array shape.outer most (without f σ)
  without f (shape.array shape.positions most σ) = shape.array shape.positions most σ
  without f (shape.object rows) = shape.object (rows_without f rows)

  pub rows_without : ℕ → Rows → Rows
  rows_without f shape.no_row = shape.no_row
  rows_without f (shape.row g need name σ rows) = eqb g f ⇒ rows_without f rows else shape.row g need name (without f σ) (rows_without f rows)

-- stage B before W1: stations have no field 25
abbrev pub faults_b_of_six : Table → (file : ℕ) → List ℕ → List Fault
faults_b_of_six t file [] = []
faults_b_of_six t file (b ∷ s) = file_faults (without 25 (file_shape t file)) (tree_of (b ∷ s))

-- stage C before W1: a station refers to nothing
abbrev pub faults_of_six : Files → (file n : ℕ) → Picked → List Fault
faults_of_six s file n x = eqb file 2 ⇒ [] else faults_of s file n x

abbrev pub cross_faults_of_six : Table → Files → ℕ → List Fault
cross_faults_of_six t s file =
    faulty top 0 (kind_if (missing_file s file) condition) ++
    repeats_in (file_shape t file) (s file).records ++
    each_record (faults_of_six s file) 1 (s file).records

-- the stages over the six older files, and the rules that then count
abbrev pub stage_a_of_six : Feeds → List Parts
stage_a_of_six s = each_from (λ file. rules_a file (bytes_of s file)) 1 6

abbrev pub stage_b_of_six : Table → Feeds → List Parts
stage_b_of_six t s = each_from (λ file. map (fault_parts file) (faults_b_of_six t file (bytes_of s file))) 1 6

abbrev pub stage_c_of_six : Table → Feeds → List Parts
stage_c_of_six t s = each_from (λ file. map (fault_parts file) (cross_faults_of_six t (picked t s) file)) 1 6

abbrev pub broken_rules_of_six : Table → Feeds → List Parts
broken_rules_of_six t s = or_else (stage_a_of_six s) (or_else (stage_b_of_six t s) (stage_c_of_six t s))

pub record SixFiles (t : Table) : Type 0 where
  pub stage_a : (s : Feeds) (p : Parts) → Memᴰ p (stage_a_of_six s) → Memᴰ p (stage_a s)
  pub stage_b : (s : Feeds) (p : Parts) → Memᴰ p (stage_b_of_six t s) → Memᴰ p (stage_b_by coordinates_found t s)
  pub stage_c : (s : Feeds) (p : Parts) → Memᴰ p (stage_c_of_six t s) → Memᴰ p (stage_c t s)
  pub accepted : (s : Feeds) → broken_rules t s ≡ [] → broken_rules_of_six t s ≡ []
