-- Words at places of a text, one equation for each way through the loop that compares them.
use mathlib.Core.List.{List, [], ◌∷◌}
use mathlib.Core.Path.{◌≡◌, refl}
use Prim.Native.Nat.{ℕ, ◌+◌, ◌≤◌, ◌<◌}
use lib.Dec.{eqb}
use lib.ListN.{length, drop, get_or, drop_of_length-le}
use borrow.Author.Tests.{eq-eqb, ne_eqb}
use Rattle.notation.proofs.Booleans.{by_test}
use Rattle.notation.proofs.Lists.{at_cons}
use Rattle.word.specs.Kinds.{not_json}
use Rattle.lexeme.specs.Read.{placed}
use Rattle.lexeme.specs.Read.Read.{done, bad}
use Rattle.lexeme.specs.Tokens.{literal}

module _ {A : Type 0} (x : A) (s w : List ℕ) (i k : ℕ) where
  pub literal-all : length w ≤ k → literal (drop k w) x (drop i s) ≡ done x (drop i s)
  unfolding literal
  literal-all h = rw (drop_of_length-le w h)

  module _ (h : k < length w) where
    pub literal-short : length s ≤ i → literal (drop k w) x (drop i s) ≡ bad not_json (drop i s)
    unfolding literal
    literal-short g = rw (at_cons w k h, drop_of_length-le s g)

    pub literal-wrong : i < length s → (get_or s i 0 ≡ get_or w k 0 → ⊥) → literal (drop k w) x (drop i s) ≡ bad not_json (drop i s)
    unfolding literal
    literal-wrong g e = rw (at_cons w k h, at_cons s i g, ne_eqb _ _ e, literal)

    pub literal-next : i < length s → get_or s i 0 ≡ get_or w k 0 → literal (drop k w) x (drop i s) ≡ literal (drop (k + 1) w) x (drop (i + 1) s)
    unfolding literal
    literal-next g e = rw (at_cons w k h, at_cons s i g, eq-eqb _ _ e, literal)

-- where a word ends does not depend on what it stands for
pub literal-placed : {A B : Type 0} (w : List ℕ) (x : A) (y : B) (l s : List ℕ) → placed s (literal w x l) ≡ placed s (literal w y l)
unfolding literal placed
literal-placed [] x y l s = refl
literal-placed (c ∷ w) x y [] s = refl
literal-placed (c ∷ w) x y (b ∷ r) s =
    let h = literal-placed w x y r s in by_test (eqb b c) (λ e. rw (e, literal) h) (λ e. rw (e, literal))
