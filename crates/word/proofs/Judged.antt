-- What fields say, an equation for each way through the definition; p stands for parts that were taken out of the fields before.
use mathlib.Core.Bool.{true, false}
use mathlib.Core.List.{List}
use mathlib.Core.Path.{◌≡◌}
use Prim.Native.Nat.{ℕ}
use lib.ListN.{get_or}
use borrow.Author.Tests.{eq-eqb, ne_eqb}
use Rattle.word.specs.declared.Parts.{Parts}
use Rattle.word.specs.declared.refusal.Refusal.TheVariants.{NoWord}
use Rattle.std.specs.Prelude.{Ok, Err}
use Rattle.word.specs.Form.{Form}
use Rattle.word.specs.Word.{parts_of, keeps, answer, judged}

module _ (φ : Form) (v : List ℕ) where
  pub other_form : (get_or v 0 0 ≡ φ.number → ⊥) → answer (Err NoWord) ≡ judged φ v
  unfolding judged
  other_form n = rw (ne_eqb _ _ n)

  module _ (f : get_or v 0 0 ≡ φ.number) (p : Parts) (e : p ≡ parts_of v) where
    pub word : keeps φ p ≡ true → answer (Ok p) ≡ judged φ v
    unfolding judged
    word k = rw (eq-eqb _ _ f, ← e, k)

    pub broken : keeps φ p ≡ false → answer (Err NoWord) ≡ judged φ v
    unfolding judged
    broken k = rw (eq-eqb _ _ f, ← e, k)
