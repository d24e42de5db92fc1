-- In an order of all records, those with one id stand side by side, the earlier record first: so a record repeats an id exactly where its left neighbour
-- has it.
use mathlib.Core.Bool.{Bool, true, false, not}
use mathlib.Core.List.{List, [], ◌∷◌}
use mathlib.Core.Path.{◌≡◌, refl, sym, ap, subst, ◌∙◌}
use Prim.Native.Nat.{ℕ, zero, suc, ◌+◌, ◌≤◌, ◌<◌}
use native.Mathlib.Omega.{arith}
use lib.Dec.{ltb}
use lib.ListN.{length, get_or}
use borrow.Author.Tests.{lt-ltb, le-ltb, leb-true, ltb-true, ltb-false}
use Rattle.notation.proofs.Booleans.{by_test, true-false}
use Rattle.text.specs.Text.{same}
use Rattle.text.specs.Ordering.{order_of}
use Rattle.text.proofs.Laws.{same_true, same_refl}
use Rattle.text.proofs.Ordered.{turned, less_equal, greater_equal, order-equal, order-refl, order-turned}
use Rattle.sorting.specs.Ids.{Ordered}
use Rattle.sorting.specs.Repeats.{same_id, used_before}
use Rattle.sorting.proofs.Records.{by_cases, after_equal}
use Rattle.sorting.proofs.Orders.{stands, is_record, two_records, places-order, no_greater}
use Rattle.std.specs.declared.cmp.Ordering.TheVariants.{Less, Equal, Greater}

-- whether there is an id
none-given : (x : List ℕ) → same x [] ≡ true → ltb 0 (length x) ≡ false
none-given x e = ap (λ y. ltb 0 (length y)) (same_true x [] e) ∙ le-ltb 0 0 (omega arith)

pub some-given : (x : List ℕ) → same x [] ≡ false → ltb 0 (length x) ≡ true
some-given [] e = true-false (same_refl []) e
some-given (b ∷ x) e = lt-ltb 0 (length (b ∷ x)) (omega arith)

module _ (ids : ℕ → List ℕ) where
  -- ids that are the same
  pub same-given : (i j : ℕ) → ltb 0 (length (ids j)) ≡ true → ids i ≡ ids j → same_id ids i j ≡ true
  unfolding same_id
  same-given i j t e = rw (t, same_id) (ap (λ x. same x (ids j)) e ∙ same_refl (ids j))

  same_none : (i j : ℕ) → ltb 0 (length (ids j)) ≡ false → same_id ids i j ≡ false
  unfolding same_id
  same_none i j t = rw (t, same_id)

  pub is-given : (i j : ℕ) → same_id ids i j ≡ true → ltb 0 (length (ids j)) ≡ true
  is-given i j e = by_test (ltb 0 (length (ids j))) (λ t. t) λ t. true-false e (same_none i j t)

  pub is_same : (i j : ℕ) → same_id ids i j ≡ true → ids i ≡ ids j
  unfolding same_id
  is_same i j e = same_true (ids i) (ids j) (rw (is-given i j e, same_id) at e)

  -- by the order of both ids
  pub same-ordered : (i j : ℕ) → ltb 0 (length (ids j)) ≡ true → order_of (ids i) (ids j) ≡ Equal → same_id ids i j ≡ true
  same-ordered i j t e = same-given i j t (order-equal (ids i) (ids j) e)

  same_differs : (i j : ℕ) → (order_of (ids i) (ids j) ≡ Equal → ⊥) → same_id ids i j ≡ false
  same_differs i j n =
      by_test (same_id ids i j) (λ e. absurd (n (ap (λ x. order_of x (ids j)) (is_same i j e) ∙ order-refl (ids j)))) λ e. e

  -- where the order is told first, and then whether there is an id
  pub same-told : (i j : ℕ) {t : Bool} → order_of (ids i) (ids j) ≡ Equal → t ≡ same (ids j) [] → not t ≡ same_id ids i j
  same-told i j e f =
      by_test (same (ids j) []) (λ s. ap not (f ∙ s) ∙ sym (same_none i j (none-given (ids j) s))) λ s.
      ap not (f ∙ s) ∙ sym (same-ordered i j (some-given (ids j) s) e)

  pub same_less : (i j : ℕ) → order_of (ids i) (ids j) ≡ Less → same_id ids i j ≡ false
  same_less i j e = same_differs i j (λ f. less_equal (sym e ∙ f))

  pub same_greater : (i j : ℕ) → order_of (ids i) (ids j) ≡ Greater → same_id ids i j ≡ false
  same_greater i j e = same_differs i j (λ f. greater_equal (sym e ∙ f))

  -- a record before has the id
  used : (j i n : ℕ) → i < n → same_id ids i j ≡ true → used_before ids j n ≡ true
  unfolding used_before
  used j i zero h e = absurd (omega arith)
  used j i (suc n) h e =
      by_test (same_id ids n j) (λ t. rw (t, used_before)) λ t.
      by_test (ltb i n) (λ l. rw (t, used_before) (used j i n (ltb-true i n l) e)) λ l.
      let m : n ≤ i = ltb-false i n l in let z : i ≡ n = omega arith in true-false (ap (λ k. same_id ids k j) (sym z) ∙ e) t

  user : (j n : ℕ) → used_before ids j n ≡ true → (i : ℕ) × (i < n) × (same_id ids i j ≡ true)
  unfolding used_before
  user j zero e = true-false e refl
  user j (suc n) e =
      by_test (same_id ids n j) (λ t. (n, omega arith, t)) λ t.
      let w = user j n (rw (t, used_before) at e) in let h = w.1 in (w.0, omega arith, w.2)

  module _ (order : List ℕ) (o : Ordered ids order) where
    -- an earlier record with the id of the place m stands to its left
    left-of : (m j : ℕ) → m < length order → j < length order → get_or order j 0 < get_or order m 0 → same_id ids (get_or order j 0) (get_or order m 0) ≡ true → j < m
    left-of m j h g l e =
        let a = get_or order j 0 in let b = get_or order m 0 in
        by_test (ltb j m) (λ t. ltb-true j m t) λ t.
        let n : m ≤ j = ltb-false j m t in
        by_test (ltb m j)
        (λ s.
        let q : order_of (ids b) (ids a) ≡ Equal = ap (order_of (ids b)) (is_same a b e) ∙ order-refl (ids b) in
        let k : get_or order m 0 ≤ get_or order j 0 = leb-true b a (sym (after_equal ids b a q) ∙ places-order ids order o m j (ltb-true m j s) g) in
        absurd (omega arith))
        λ s.
        let k : j ≤ m = ltb-false m j s in let z : j ≡ m = omega arith in
        let y : get_or order j 0 ≡ get_or order m 0 = ap (λ k. get_or order k 0) z in absurd (omega arith)

    -- and where an id is repeated there is one
    left_user : (m : ℕ) → m < length order → used_before ids (get_or order m 0) (get_or order m 0) ≡ true
        → (j : ℕ) × (j < m) × (same_id ids (get_or order j 0) (get_or order m 0) ≡ true)
    left_user m h s =
        let b = get_or order m 0 in
        let w = user b b s in
        let v = stands ids order o w.0 (less w.1 (is_record ids order o m h)) in
        let e : same_id ids (get_or order v.0 0) b ≡ true = ap (λ k. same_id ids k b) v.2 ∙ w.2 in
        (v.0, left-of m v.0 h v.1 (subst (λ k. k < b) (sym v.2) w.1) e, e)
      where
        less : {x y z : ℕ} → x < y → y < z → x < z
        less f g = omega arith

    -- so no record at the first place repeats an id
    pub first-place : 0 < length order → used_before ids (get_or order 0 0) (get_or order 0 0) ≡ false
    first-place h =
        by_test (used_before ids (get_or order 0 0) (get_or order 0 0)) (λ s. let w = left_user 0 h s in absurd (omega (arith, w.1))) λ s. s

    module _ (i : ℕ) (h : i + 1 < length order) where
      -- a left neighbour with the same id is an earlier record
      earlier : same_id ids (get_or order i 0) (get_or order (i + 1) 0) ≡ true → get_or order i 0 < get_or order (i + 1) 0
      earlier e =
          let a = get_or order i 0 in let b = get_or order (i + 1) 0 in
          let q : order_of (ids a) (ids b) ≡ Equal = ap (λ x. order_of x (ids b)) (is_same a b e) ∙ order-refl (ids b) in
          let l : get_or order i 0 ≤ get_or order (i + 1) 0 = leb-true a b (sym (after_equal ids a b q) ∙ places-order ids order o i (i + 1) (omega arith) h) in
          by_test (ltb (get_or order i 0) (get_or order (i + 1) 0)) (λ t. ltb-true a b t) λ t.
          let m : get_or order (i + 1) 0 ≤ get_or order i 0 = ltb-false a b t in absurd (two_records ids order o i (i + 1) (omega arith) h (omega arith))

      -- what stands between two records with one id has it too
      beside : (j : ℕ) → j ≤ i → same_id ids (get_or order j 0) (get_or order (i + 1) 0) ≡ true → same_id ids (get_or order i 0) (get_or order (i + 1) 0) ≡ true
      beside j g e =
          let c = get_or order j 0 in let a = get_or order i 0 in let b = get_or order (i + 1) 0 in
          by_cases (order_of (ids a) (ids b))
          (λ l. absurd (no_greater ids order o j i g (omega arith) (order-turned (ids a) (ids c) ∙ ap turned (ap (order_of (ids a)) (is_same c b e) ∙ l))))
          (λ l. same-ordered a b (is-given c b e) l)
          λ l. absurd (no_greater ids order o i (i + 1) (omega arith) h l)

      pub neighbour : same_id ids (get_or order i 0) (get_or order (i + 1) 0) ≡ used_before ids (get_or order (i + 1) 0) (get_or order (i + 1) 0)
      neighbour =
          let a = get_or order i 0 in let b = get_or order (i + 1) 0 in
          by_test (same_id ids a b) (λ t. t ∙ sym (used b a b (earlier t) t)) λ t.
          by_test (used_before ids b b) (λ s. let w = left_user (i + 1) h s in true-false (beside w.0 (omega (arith, w.1)) w.2) t) λ s. t ∙ sym s
