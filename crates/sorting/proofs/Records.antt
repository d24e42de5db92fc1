-- Records by their ids, and equal ids by record, are in a total order: texts are, and so are numbers.
use mathlib.Core.Bool.{true, false}
use mathlib.Core.List.{List}
use mathlib.Core.Path.{◌≡◌, refl, sym, ap, ◌∙◌}
use Prim.Native.Nat.{ℕ, ◌≤◌, ◌<◌}
use native.Mathlib.Omega.{arith}
use lib.Dec.{leb}
use lib.ListN.{drop, get_or}
use borrow.Author.Tests.{leb-true, leb-false, le-leb}
use Rattle.notation.proofs.Booleans.{true-false}
use Rattle.text.specs.Text.{text_of}
use Rattle.text.specs.Ordering.{order_of}
use Rattle.text.proofs.Ordered.{turned, order-equal, order-turned, order_trans}
use Rattle.sorting.specs.Ids.{id_at, by_order, not_after}
use Rattle.sorting.proofs.Sorts.{Total}
use Rattle.std.specs.declared.cmp.Ordering.{Ordering}
use Rattle.std.specs.declared.cmp.Ordering.TheVariants.{Less, Equal, Greater}

pub by_cases : {A : Type 0} (o : Ordering) → (o ≡ Less → A) → (o ≡ Equal → A) → (o ≡ Greater → A) → A
by_cases Less f g h = f refl
by_cases Equal f g h = g refl
by_cases Greater f g h = h refl

-- what a comparison of the bytes from two ids on tells
pub order-told : (p places : List ℕ) (i j : ℕ) {a b : List ℕ} {o r : Ordering} → a ≡ drop (get_or places i 0) p → b ≡ drop (get_or places j 0) p
    → o ≡ order_of (text_of a) (text_of b) → o ≡ r → order_of (id_at p places i) (id_at p places j) ≡ r
order-told p places i j {a} {b} e f g h = ap (λ x. order_of (text_of x) (id_at p places j)) (sym e) ∙ ap (λ x. order_of (text_of a) (text_of x)) (sym f) ∙ sym g ∙ h

module _ (ids : ℕ → List ℕ) where
  -- one step: by the order of the ids
  module _ (i j : ℕ) where
    pub after_less : order_of (ids i) (ids j) ≡ Less → not_after ids i j ≡ true
    unfolding not_after
    after_less e = ap (λ o. by_order o i j) e

    pub after_equal : order_of (ids i) (ids j) ≡ Equal → not_after ids i j ≡ leb i j
    unfolding not_after
    after_equal e = ap (λ o. by_order o i j) e

    pub after_greater : order_of (ids i) (ids j) ≡ Greater → not_after ids i j ≡ false
    unfolding not_after
    after_greater e = ap (λ o. by_order o i j) e

  module _ (i j k : ℕ) (g : not_after ids i j ≡ true) (h : not_after ids j k ≡ true) where
    -- where the ids of i and j are the same, or those of j and k
    same_first : ids i ≡ ids j → order_of (ids i) (ids k) ≡ order_of (ids j) (ids k)
    same_first e = ap (λ x. order_of x (ids k)) e

    same_second : ids j ≡ ids k → order_of (ids i) (ids k) ≡ order_of (ids i) (ids j)
    same_second e = ap (order_of (ids i)) (sym e)

    not-after_trans : not_after ids i k ≡ true
    not-after_trans =
        by_cases (order_of (ids i) (ids j))
        (λ a. by_cases (order_of (ids j) (ids k))
        (λ b. after_less i k (order_trans (ids i) (ids j) (ids k) a b))
        (λ b. after_less i k (same_second (order-equal (ids j) (ids k) b) ∙ a))
        λ b. true-false h (after_greater j k b))
        (λ a. by_cases (order_of (ids j) (ids k))
        (λ b. after_less i k (same_first (order-equal (ids i) (ids j) a) ∙ b))
        (λ b.
        let n : i ≤ j = leb-true i j (sym (after_equal i j a) ∙ g) in
        let m : j ≤ k = leb-true j k (sym (after_equal j k b) ∙ h) in
        after_equal i k (same_first (order-equal (ids i) (ids j) a) ∙ b) ∙ le-leb i k (omega arith))
        λ b. true-false h (after_greater j k b))
        λ a. true-false g (after_greater i j a)

  not-after_total : (i j : ℕ) → not_after ids i j ≡ false → not_after ids j i ≡ true
  not-after_total i j g =
      let e = order-turned (ids i) (ids j) in
      by_cases (order_of (ids i) (ids j))
      (λ a. true-false (after_less i j a) g)
      (λ a. let n : j < i = leb-false i j (sym (after_equal i j a) ∙ g) in after_equal j i (e ∙ ap turned a) ∙ le-leb j i (omega arith))
      λ a. after_less j i (e ∙ ap turned a)

  pub records_total : Total (not_after ids)
  records_total = record { trans = not-after_trans; total = not-after_total }
