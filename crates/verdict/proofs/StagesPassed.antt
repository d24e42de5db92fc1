-- Where stages A and B find nothing, every file of the set is through them: what stage C starts from.
use mathlib.Core.List.{List, [], ◌∷◌, map}
use mathlib.Core.Path.{◌≡◌, refl, ap, ◌∙◌}
use Prim.Native.Nat.{ℕ, ◌≤◌}
use native.Mathlib.Omega.{arith}
use lib.ListN.{length}
use Rattle.json_text.specs.Text.{syntax_of}
use Rattle.schema.specs.Shape.{Shape, Table}
use Rattle.schema.specs.Tables.{table_at, sheet_shape, sheet_of}
use Rattle.schema.proofs.SheetShapes.{sheet_shape_lem}
use Rattle.fault.specs.declared.Fault.{Fault}
use Rattle.judge.specs.Faults.{file_faults}
use Rattle.fault.specs.Outcome.{file_count, fault_parts, unbroken}
use Rattle.clean.specs.Clean.{tree_of}
use Rattle.cross.specs.inner.Stage.{AllPassAB}
use Rattle.cross.specs.Stage.{Feeds, bytes_of}
use Rattle.verdict.specs.Verdict.{syntax_rules, rules_a, stage_a, stage_b_by}
use Rattle.verdict.specs.declared.stages.Stage.TheVariants as stage
use Rattle.verdict.specs.inner.Stages.{faults_b, stage_b, first_in}
use Rattle.verdict.proofs.Every.{every_none}
use Rattle.verdict.proofs.First.{first-clean}
use Rattle.verdict.proofs.ByFile.{first-stage_a, first-stage_b}
use Rattle.std.specs.Prelude.{Result, Ok, Err}
use Rattle.lexeme.specs.declared.SyntaxError.{SyntaxError}

no_syntax : (file : ℕ) (x : Result (Unit {0}) SyntaxError) → syntax_rules file x ≡ [] → x ≡ Ok tt
no_syntax file (Ok _) e = refl
no_syntax file (Err w) e = let z : ◌≡◌ {A = ℕ} 0 1 = cc in absurd (omega arith)

no-places : (file : ℕ) (l : List Fault) → map (fault_parts file) l ≡ [] → l ≡ []
no-places file [] e = refl
no-places file (f ∷ l) e = let z : ◌≡◌ {A = ℕ} 0 1 = cc in absurd (omega arith)

-- one file; of stage B, by the sheet that stage C asks
reads : (file : ℕ) (s : List ℕ) → rules_a file s ≡ [] → (length s ≡ 0 → ⊥) → syntax_of s ≡ Ok tt
reads file [] e h = absurd (h refl)
reads file (b ∷ s) e h = no_syntax file (syntax_of (b ∷ s)) e

faultless : (table file : ℕ) (s : List ℕ) → faults_b (table_at table) file s ≡ [] → (length s ≡ 0 → ⊥) → file_faults (sheet_shape (sheet_of table file)) (tree_of s) ≡ []
faultless table file [] e h = absurd (h refl)
faultless table file (b ∷ s) e h = ap (λ (σ : Shape). file_faults σ (tree_of (b ∷ s))) (sheet_shape_lem table file) ∙ e

-- all files
pub all_read : (t : Table) (s : Feeds) → first_in t stage.A s ≡ unbroken
    → (file : ℕ) → 1 ≤ file → file ≤ file_count → (length (bytes_of s file) ≡ 0 → ⊥) → syntax_of (bytes_of s file) ≡ Ok tt
unfolding stage_a
all_read t s a file h i =
    reads file (bytes_of s file) (every_none (λ n. rules_a n (bytes_of s n)) (first-clean (stage_a s) (first-stage_a t s ∙ a)) file h i)

pub all-through : (table : ℕ) (s : Feeds) → first_in (table_at table) stage.A s ≡ unbroken → first_in (table_at table) stage.B s ≡ unbroken → AllPassAB table s
unfolding stage_b_by
all-through table s a b file h i =
    let t = table_at table in
    let y = every_none (λ n. map (fault_parts n) (faults_b t n (bytes_of s n))) (first-clean (stage_b t s) (first-stage_b t s ∙ b)) file h i in
    record { reads = all_read t s a file h i; faultless = faultless table file (bytes_of s file) (no-places file (faults_b t file (bytes_of s file)) y) }
