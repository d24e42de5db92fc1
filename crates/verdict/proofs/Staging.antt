-- What a stage tells of a file that it judges alone: nothing of an absent one, and of one that is there what it finds in its bytes.
use mathlib.Core.List.{List, [], ◌∷◌}
use mathlib.Core.Path.{◌≡◌, refl, sym, ap, ◌∙◌}
use Prim.Native.Nat.{ℕ}
use native.Mathlib.Omega.{arith}
use lib.ListN.{length}
use Rattle.json_text.specs.Text.{syntax_of}
use Rattle.schema.specs.Shape.{Shape, Table}
use Rattle.schema.specs.Tables.{table_at, sheet_shape, sheet_of}
use Rattle.schema.proofs.SheetShapes.{sheet_shape_lem}
use Rattle.fault.specs.declared.Fault.{Fault}
use Rattle.fault.specs.Fault.{least}
use Rattle.fault.specs.Outcome.{outcome_of, unbroken}
use Rattle.judge.specs.Faults.{file_faults}
use Rattle.clean.specs.Clean.{tree_of, syntax_outcome}
use Rattle.verdict.specs.declared.stages.Stage.{Stage}
use Rattle.verdict.specs.declared.stages.Stage.TheVariants as stage
use Rattle.verdict.specs.inner.Stages.{outcome_in}
use Rattle.verdict.proofs.Passed.{faults-there}
use Rattle.std.specs.Prelude.{Ok}

pub alone-absent : (t : Table) (x : Stage) (file : ℕ) (s : List ℕ) → length s ≡ 0 → unbroken ≡ outcome_in t x file s
unfolding least
alone-absent t stage.A file [] e = refl
alone-absent t stage.B file [] e = refl
alone-absent t x file (b ∷ s) e = absurd (omega arith)

pub alone-A : (t : Table) (file : ℕ) (s : List ℕ) → (length s ≡ 0 → ⊥) → syntax_outcome file (syntax_of s) ≡ outcome_in t stage.A file s
alone-A t file [] h = absurd (h refl)
alone-A t file (b ∷ s) h = refl

-- by the sheet that the code asks
pub alone-B : (table file : ℕ) {sheet : ℕ} (s : List ℕ) → sheet ≡ sheet_of table file → syntax_of s ≡ Ok tt
    → outcome_of file (least (file_faults (sheet_shape sheet) (tree_of s))) ≡ outcome_in (table_at table) stage.B file s
alone-B table file s e h =
    ap (λ (l : List Fault). outcome_of file (least l))
    (ap (λ (σ : Shape). file_faults σ (tree_of s)) (ap sheet_shape e ∙ sheet_shape_lem table file) ∙ sym (faults-there (table_at table) file s h))
