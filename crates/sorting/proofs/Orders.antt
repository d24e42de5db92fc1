-- An order of all records: each record stands in it once, and two places of it are in order. So a record whose id comes after another's stands behind it.
use mathlib.Core.Bool.{true}
use mathlib.Core.List.{List}
use mathlib.Core.Path.{◌≡◌, sym, ap, subst, ◌∙◌}
use Prim.Native.Nat.{ℕ, ◌≤◌, ◌<◌}
use native.Mathlib.Omega.{arith}
use lib.Dec.{ltb}
use lib.ListN.{length, get_or}
use borrow.Author.Tests.{ltb-true, ltb-false}
use Rattle.notation.proofs.Booleans.{by_test, true-false}
use Rattle.text.specs.Ordering.{order_of}
use Rattle.text.proofs.Ordered.{greater_equal, order-refl}
use Rattle.sorting.specs.Sorting.{numbers}
use Rattle.sorting.specs.Ids.{not_after, Ordered}
use Rattle.sorting.specs.inner.Halves.{Ascending}
use Rattle.sorting.proofs.InOrder.{Has, has-at, at_has, numbers-has, has-numbers, Apart, numbers_apart, apart-at, has-sorted, sorted-has, sorted_apart, InOrder, sorted-order, order-at}
use Rattle.sorting.proofs.Records.{records_total, after_greater}
use Rattle.std.specs.declared.cmp.Ordering.TheVariants.{Greater}

module _ (ids : ℕ → List ℕ) (order : List ℕ) (o : Ordered ids order) where
  -- every record has a place
  pub stands : (k : ℕ) → k < length order → (i : ℕ) × (i < length order) × (get_or order i 0 ≡ k)
  stands k h =
      let all = numbers 0 (length order) in
      has-at k order (subst (Has k) (sym o) (has-sorted (not_after ids) k all (numbers-has k 0 (length order) (omega arith) (omega arith))))

  -- and at every place stands a record
  pub is_record : (i : ℕ) → i < length order → get_or order i 0 < length order
  is_record i h =
      let k = get_or order i 0 in let all = numbers 0 (length order) in
      let w = has-numbers (get_or order i 0) 0 (length order) (sorted-has (not_after ids) k all (subst (Has k) o (at_has order i h))) in omega (arith, w.1)

  -- one place each
  pub two_records : (i j : ℕ) → i < j → j < length order → get_or order i 0 ≡ get_or order j 0 → ⊥
  two_records = apart-at order (subst Apart (sym o) (sorted_apart (not_after ids) (numbers 0 (length order)) (numbers_apart 0 (length order))))

  pub places-order : (i j : ℕ) → i < j → j < length order → not_after ids (get_or order i 0) (get_or order j 0) ≡ true
  places-order =
      let t = records_total ids in
      order-at (not_after ids) t order (subst (InOrder (not_after ids) t) (sym o) (sorted-order (not_after ids) t (numbers 0 (length order))))

  -- no id comes after that of a later place
  pub no_greater : (i j : ℕ) → i ≤ j → j < length order → order_of (ids (get_or order i 0)) (ids (get_or order j 0)) ≡ Greater → ⊥
  no_greater i j g h e =
      by_test (ltb i j) (λ t. true-false (places-order i j (ltb-true i j t) h) (after_greater ids (get_or order i 0) (get_or order j 0) e)) λ t.
      let m : j ≤ i = ltb-false i j t in
      let z : j ≡ i = omega arith in
      greater_equal (sym e ∙ ap (λ k. order_of (ids (get_or order i 0)) (ids (get_or order k 0))) z ∙ order-refl (ids (get_or order i 0)))

  -- so the ids by place are in order
  pub ascending : Ascending (λ i. ids (get_or order i 0)) (length order)
  ascending i j g h e = no_greater i j g h e
