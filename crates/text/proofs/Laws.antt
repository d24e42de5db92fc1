-- Comparing texts: `same` is equality, so equal spellings are equal texts; and words are alike to themselves,
-- either way round.
use mathlib.Core.Bool.{true, false}
use mathlib.Core.List.{List, [], ◌∷◌, map}
use mathlib.Core.Path.{◌≡◌, refl, sym, ap, ◌∙◌}
use Prim.Native.Nat.{ℕ}
use lib.Dec.{eqb}
use lib.ListN.{length}
use borrow.Author.Tests.{eq-eqb, eqb-true}
use lib.Pointwise.{pointwise}
use Rattle.notation.proofs.Booleans.{and-is, by_test, true-false}
use Rattle.text.specs.Text.{same, lower, same_word}

pub same_refl : (x : List ℕ) → same x x ≡ true
unfolding same
same_refl [] = refl
same_refl (a ∷ x) = rw (eq-eqb a a refl, same) (same_refl x)

pub same_true : (x y : List ℕ) → same x y ≡ true → x ≡ y
unfolding same
same_true [] [] e = refl
same_true [] (b ∷ y) e = true-false e refl
same_true (a ∷ x) [] e = true-false e refl
same_true (a ∷ x) (b ∷ y) e =
    let ih = same_true x y in
    by_test (eqb a b)
    (λ t. let h = eqb-true a b t in let g : x ≡ y = ih (rw (t, same) at e) in cc)
    λ t. true-false e (rw (t, same))

-- the code's `==` at slices
pub same-pairs : (x y : List ℕ) → pointwise eqb x y ≡ same x y
unfolding same
same-pairs [] [] = refl
same-pairs [] (b ∷ y) = refl
same-pairs (a ∷ x) [] = refl
same-pairs (a ∷ x) (b ∷ y) = rw (same-pairs x y, same) (and-is (eqb a b) (same x y))

pub same_false : (x y : List ℕ) → same x y ≡ false → x ≡ y → ⊥
same_false x y e h = true-false (ap (same x) (sym h) ∙ same_refl x) e

pub same-sym : (x y : List ℕ) → same x y ≡ same y x
same-sym x y =
    by_test (same x y) (λ t. t ∙ sym (ap (λ z. same y z) (same_true x y t) ∙ same_refl y)) λ f.
    by_test (same y x) (λ t. absurd (same_false x y f (sym (same_true y x t)))) λ t. f ∙ sym t

pub same-lengths : (x y : List ℕ) → (length x ≡ length y → ⊥) → same x y ≡ false
same-lengths x y h = by_test (same x y) (λ t. absurd (h (ap length (same_true x y t)))) λ f. f

pub word-refl : (x : List ℕ) → same_word x x ≡ true
unfolding same_word
word-refl x = same_refl (map lower x)

pub word-sym : (x y : List ℕ) → same_word x y ≡ same_word y x
unfolding same_word
word-sym x y = same-sym (map lower x) (map lower y)

-- the same text is the same word
pub word_same : (x y : List ℕ) → same x y ≡ true → same_word x y ≡ true
word_same x y e = ap (same_word x) (sym (same_true x y e)) ∙ word-refl x
