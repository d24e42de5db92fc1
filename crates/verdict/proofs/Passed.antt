-- What stage A leaves of a file. A rule that it finds broken is of the kinds 1 to 4; a file that it passes is there, and what later stages look at is
-- what is picked of its tree.
use mathlib.Core.Bool.{true}
use mathlib.Core.List.{List, [], ◌∷◌}
use mathlib.Core.Logic.{⊎_elim}
use mathlib.Core.Path.{◌≡◌, refl, ap}
use Prim.Native.Nat.{ℕ, ◌≤◌}
use native.Mathlib.Omega.{arith}
use lib.Dec.{eqb}
use lib.ListN.{length}
use borrow.Author.Tests.{eqb-true, eqb-false}
use Rattle.word.specs.Kinds.{too_long}
use Rattle.json_text.specs.Text.{syntax_of}
use Rattle.json_text.proofs.Verdict.{met}
use Rattle.json_text.proofs.Least.{least}
use Rattle.json_text.specs.Tree.{Json}
use Rattle.json_text.specs.Spelling.{Spells}
use Rattle.json_text.proofs.Spelled.{spelled-read}
use Rattle.limits.specs.Ceilings.{depth}
use Rattle.notation.proofs.Booleans.{by_test}
use Rattle.walk.proofs.Files.{passed}
use Rattle.schema.specs.Shape.{Table, file_shape}
use Rattle.judge.specs.Faults.{file_faults}
use Rattle.clean.specs.Clean.{tree_of, records_in}
use Rattle.cross.specs.Stage.{file_of}
use Rattle.verdict.specs.Verdict.{syntax_rules, rules_a}
use Rattle.verdict.specs.inner.Stages.{faults_b}
use Rattle.lexeme.specs.Read.{wrong_at}
use Rattle.std.specs.Prelude.{Ok}

pub syntax_kind : (s : List ℕ) (k o : ℕ) → syntax_of s ≡ wrong_at k o → (1 ≤ k) × (k ≤ 4)
syntax_kind s k o e =
    by_test (eqb k too_long) (λ t. let h = eqb-true k too_long t in (omega arith, omega arith)) λ f.
    let m = met s k o e (eqb-false k too_long f) in
    ⊎_elim (λ h. (omega arith, omega arith)) (⊎_elim (λ h. (omega arith, omega arith)) (λ h. (omega arith, omega arith)))
    (least s k m.rest m.reads).kind

pub there : (s : List ℕ) → syntax_of s ≡ Ok tt → length s ≡ 0 → ⊥
there s e z = let t = passed s e in let h = t.some in let k = t.inside in omega arith

-- the tree of a file is the one that its bytes spell
pub tree-spelled : {x : Json} (s : List ℕ) → Spells depth x s → tree_of s ≡ x
unfolding tree_of
tree-spelled s h = rw (tree_of, spelled-read h)

pub read-there : (file : ℕ) (s : List ℕ) → syntax_of s ≡ Ok tt → rules_a file s ≡ []
read-there file [] e = refl
read-there file (b ∷ s) e = ap (syntax_rules file) e

pub faults-there : (t : Table) (file : ℕ) (s : List ℕ) → syntax_of s ≡ Ok tt → faults_b t file s ≡ file_faults (file_shape t file) (tree_of s)
faults-there t file [] e = absurd (there [] e refl)
faults-there t file (b ∷ s) e = refl

pub file-there : (t : Table) (file : ℕ) (s : List ℕ) → syntax_of s ≡ Ok tt → file_of t file s ≡ record { here = true; records = records_in (file_shape t file) s }
file-there t file [] e = absurd (there [] e refl)
file-there t file (b ∷ s) e = refl
