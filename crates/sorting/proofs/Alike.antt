-- Records whose ids are the same by two accounts are in the same order by both: a sort asks of the order only how the numbers of its list compare.
use mathlib.Core.Bool.{Bool}
use mathlib.Core.List.{List, [], ◌∷◌}
use mathlib.Core.Logic.{inl, inr}
use mathlib.Core.Path.{◌≡◌, refl, sym, ap, ◌∙◌}
use Prim.Native.Nat.{ℕ, ◌<◌}
use native.Mathlib.Omega.{arith}
use lib.ListN.{length}
use Rattle.notation.proofs.Booleans.{by_test}
use Rattle.text.specs.Ordering.{order_of}
use Rattle.sorting.specs.Sorting.{insert, sorted, numbers}
use Rattle.sorting.specs.Ids.{by_order, not_after, Ordered}
use Rattle.sorting.proofs.Sorts.{insert-here, insert-later}
use Rattle.sorting.proofs.InOrder.{Has, has-numbers, sorted-has}

module _ (le me : ℕ → ℕ → Bool) where
  insert-alike : (x : ℕ) (l : List ℕ) → ((y : ℕ) → Has y l → le x y ≡ me x y) → insert le x l ≡ insert me x l
  unfolding insert
  insert-alike x [] f = refl
  insert-alike x (y ∷ l) f =
      let e = sym (f y (inl refl)) in
      let rest = insert-alike x l (λ z h. f z (inr h)) in
      by_test (le x y) (λ t. insert-here le x y l t ∙ sym (insert-here me x y l (e ∙ t))) λ t.
      insert-later le x y l t ∙ ap (λ z. y ∷ z) rest ∙ sym (insert-later me x y l (e ∙ t))

  sorted-alike : (l : List ℕ) → ((x y : ℕ) → Has x l → Has y l → le x y ≡ me x y) → sorted le l ≡ sorted me l
  unfolding sorted
  sorted-alike [] f = refl
  sorted-alike (x ∷ l) f =
      ap (insert le x) (sorted-alike l (λ a b g h. f a b (inr g) (inr h))) ∙ insert-alike x (sorted me l) (λ y h. f x y (inl refl) (inr (sorted-has me y l h)))

module _ (ids others : ℕ → List ℕ) where
  after-alike : (i j : ℕ) → ids i ≡ others i → ids j ≡ others j → not_after ids i j ≡ not_after others i j
  unfolding not_after
  after-alike i j e f = ap (λ x. by_order (order_of x (ids j)) i j) e ∙ ap (λ x. by_order (order_of (others i) x) i j) f

  pub ordered-alike : (order : List ℕ) → ((k : ℕ) → k < length order → ids k ≡ others k) → Ordered ids order → Ordered others order
  ordered-alike order f o =
      o ∙ sorted-alike (not_after ids) (not_after others) (numbers 0 (length order)) (λ i j g h. after-alike i j (f i (inside i g)) (f j (inside j h)))
    where
      inside : (k : ℕ) → Has k (numbers 0 (length order)) → k < length order
      inside k h = let w = has-numbers k 0 (length order) h in omega (arith, w.1)
