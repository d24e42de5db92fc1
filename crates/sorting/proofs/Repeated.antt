-- The loop over neighbours: it keeps the least record so far that repeats an id. At the end it is the least of all, since every record has a place in the
-- order, and the first record that repeats an id is the least.
use mathlib.Core.Bool.{true, false}
use mathlib.Core.List.{List}
use mathlib.Core.Path.{◌≡◌, refl, sym, ap, subst, ◌∙◌}
use Prim.Native.Nat.{ℕ, zero, suc, ◌+◌, ◌-◌, ◌≤◌, ◌<◌}
use native.Mathlib.Omega.{arith}
use lib.Dec.{ltb}
use lib.ListN.{length, get_or}
use borrow.Author.Tests.{ltb-true, ltb-false}
use Rattle.notation.specs.Choice.{◌⇒◌else◌}
use Rattle.notation.proofs.Booleans.{by_test, true-false}
use Rattle.sorting.specs.Ids.{Ordered}
use Rattle.sorting.specs.Repeats.{same_id, used_before, repeat_from, first_repeat}
use Rattle.sorting.specs.inner.Lesser.{lesser}
use Rattle.sorting.proofs.Orders.{stands, is_record}
use Rattle.sorting.proofs.Lesser.{lesser-none, lesser-only, lesser-second, lesser-first}
use Rattle.sorting.proofs.Neighbours.{first-place, neighbour}

-- of the records at the first i places of an order, the least that repeats an id has the number `first`, counted from 1; 0 where there is none
pub record LeastRepeat (ids : ℕ → List ℕ) (order : List ℕ) (i first : ℕ) : Type 0 where
  pub none : first ≡ 0 → (m : ℕ) → m < i → m < length order → used_before ids (get_or order m 0) (get_or order m 0) ≡ true → ⊥
  pub repeats : (k : ℕ) → first ≡ k + 1 → (used_before ids k k ≡ true) × (k < length order)
  pub least : (k : ℕ) → first ≡ k + 1 → (m : ℕ) → m < i → m < length order → used_before ids (get_or order m 0) (get_or order m 0) ≡ true → k ≤ get_or order m 0

module _ (ids : ℕ → List ℕ) where
  -- the first record that repeats an id, by those before it
  repeat_none : (k n : ℕ) → ((j : ℕ) → k ≤ j → j < k + n → used_before ids j j ≡ true → ⊥) → repeat_from ids k n ≡ 0
  unfolding repeat_from
  repeat_none k zero none = refl
  repeat_none k (suc n) none =
      by_test (used_before ids k k) (λ t. absurd (none k (omega arith) (omega arith) t)) λ t.
      rw (repeat_from, t) (repeat_none (k + 1) n (λ j g h. none j (omega arith) (omega arith)))

  repeat_some : (k n j : ℕ) → k ≤ j → j < k + n → used_before ids j j ≡ true → ((m : ℕ) → k ≤ m → m < j → used_before ids m m ≡ true → ⊥) → repeat_from ids k n ≡ j + 1
  unfolding repeat_from
  repeat_some k zero j g h e none = absurd (omega arith)
  repeat_some k (suc n) j g h e none =
      by_test (ltb k j)
      (λ l.
      let m : k < j = ltb-true k j l in
      by_test (used_before ids k k) (λ t. absurd (none k (omega arith) m t)) λ t.
      rw (repeat_from, t) (repeat_some (k + 1) n j (omega arith) (omega arith) e (λ m a b. none m (omega arith) b)))
      λ l.
      let m : j ≤ k = ltb-false k j l in let z : j ≡ k = omega arith in
      let t : used_before ids k k ≡ true = ap (λ x. used_before ids x x) (sym z) ∙ e in
      rw (repeat_from, t) (ap (λ x. x + 1) (sym z))

  module _ (order : List ℕ) (o : Ordered ids order) where
    pub least_start : LeastRepeat ids order 1 0
    least_start =
        record {
          none = λ e m h g t. let z : m ≡ 0 = omega arith in true-false (ap (λ k. used_before ids (get_or order k 0) (get_or order k 0)) (sym z) ∙ t) (first-place ids order o (omega arith));
          repeats = λ k e. absurd (omega arith);
          least = λ k e. absurd (omega arith);
        }

    module _ (i first : ℕ) (w : LeastRepeat ids order i first) (g : 1 ≤ i) (h : i < length order) where
      -- one place more
      by_last : {A : Type 0} (m : ℕ) → m < i + 1 → (m < i → A) → (m ≡ i → A) → A
      by_last m l f e = by_test (ltb m i) (λ t. f (ltb-true m i t)) λ t. let n : i ≤ m = ltb-false m i t in e (omega arith)

      at_last : (m : ℕ) → m ≡ i → used_before ids (get_or order m 0) (get_or order m 0) ≡ used_before ids (get_or order i 0) (get_or order i 0)
      at_last m e = ap (λ k. used_before ids (get_or order k 0) (get_or order k 0)) e

      -- which does not repeat an id
      past : used_before ids (get_or order i 0) (get_or order i 0) ≡ false → LeastRepeat ids order (i + 1) first
      past f =
          record {
            none = λ e m l n t. by_last m l (λ b. w.none e m b n t) λ b. true-false (sym (at_last m b) ∙ t) f;
            repeats = w.repeats;
            least = λ k e m l n t. by_last m l (λ b. w.least k e m b n t) λ b. true-false (sym (at_last m b) ∙ t) f;
          }

      -- which does, and is the least
      taken : used_before ids (get_or order i 0) (get_or order i 0) ≡ true
          → ((m : ℕ) → m < i → m < length order → used_before ids (get_or order m 0) (get_or order m 0) ≡ true → get_or order i 0 ≤ get_or order m 0) → LeastRepeat ids order (i + 1) (get_or order i 0 + 1)
      taken u below =
          record {
            none = λ e. absurd (omega arith);
            repeats = λ k e. let z : get_or order i 0 ≡ k = omega arith in (ap (λ x. used_before ids x x) (sym z) ∙ u, subst (λ x. x < length order) z (is_record ids order o i h));
            least = λ k e m l n t.
                let z : get_or order i 0 ≡ k = omega arith in
                by_last m l (λ b. let y = below m b n t in omega arith) λ b. let y : get_or order m 0 ≡ get_or order i 0 = ap (λ k. get_or order k 0) b in omega arith;
          }

      -- which does, and is not
      kept : 0 < first → first ≤ get_or order i 0 + 1 → LeastRepeat ids order (i + 1) first
      kept a b =
          record {
            none = λ e. absurd (omega arith);
            repeats = w.repeats;
            least = λ k e m l n t.
                by_last m l (λ d. w.least k e m d n t) λ d. let y : get_or order m 0 ≡ get_or order i 0 = ap (λ k. get_or order k 0) d in omega arith;
          }

      repeat_next : used_before ids (get_or order i 0) (get_or order i 0) ≡ true → LeastRepeat ids order (i + 1) (lesser first (get_or order i 0 + 1))
      repeat_next u =
          by_test (ltb 0 first)
          (λ t.
          let a : 0 < first = ltb-true 0 first t in
          by_test (ltb (get_or order i 0 + 1) first)
          (λ s.
          let b : get_or order i 0 + 1 < first = ltb-true (get_or order i 0 + 1) first s in
          subst (LeastRepeat ids order (i + 1)) (sym (lesser-second first (get_or order i 0 + 1) (omega arith) a b))
          (taken u (λ m l n v. let y = w.least (first - 1) (omega arith) m l n v in omega arith)))
          λ s.
          let b : first ≤ get_or order i 0 + 1 = ltb-false (get_or order i 0 + 1) first s in
          subst (LeastRepeat ids order (i + 1)) (sym (lesser-first first (get_or order i 0 + 1) (omega arith) a b)) (kept a b))
          λ t.
          let a : first ≤ 0 = ltb-false 0 first t in let z : first ≡ 0 = omega arith in
          subst (LeastRepeat ids order (i + 1)) (sym (lesser-only first (get_or order i 0 + 1) (omega arith) z)) (taken u (λ m l n v. absurd (w.none z m l n v)))

      -- whether it does is told by its left neighbour
      told : same_id ids (get_or order (i - 1) 0) (get_or order i 0) ≡ used_before ids (get_or order i 0) (get_or order i 0)
      told =
          let z : i - 1 + 1 ≡ i = omega arith in
          subst (λ k. same_id ids (get_or order (i - 1) 0) (get_or order k 0) ≡ used_before ids (get_or order k 0) (get_or order k 0)) z (neighbour ids order o (i - 1) (omega arith))

      pub least-next : (x y : ℕ) → x ≡ (same_id ids (get_or order (i - 1) 0) (get_or order i 0) ⇒ get_or order i 0 + 1 else 0) → y ≡ lesser first x → LeastRepeat ids order (i + 1) y
      least-next x y e f =
          by_test (used_before ids (get_or order i 0) (get_or order i 0))
          (λ t.
          let z : x ≡ get_or order i 0 + 1 = e ∙ ap (λ s. s ⇒ get_or order i 0 + 1 else 0) (told ∙ t) in
          subst (LeastRepeat ids order (i + 1)) (sym (f ∙ ap (lesser first) z)) (repeat_next t))
          λ t.
          let z : x ≡ 0 = e ∙ ap (λ s. s ⇒ get_or order i 0 + 1 else 0) (told ∙ t) in
          subst (LeastRepeat ids order (i + 1)) (sym (f ∙ lesser-none first x z)) (past t)

    -- at the end
    pub least-end : (i first : ℕ) → LeastRepeat ids order i first → length order ≤ i → first ≡ first_repeat ids (length order)
    least-end i zero w h =
        sym (repeat_none 0 (length order) (λ j a b t.
        let v = stands ids order o j (omega arith) in
        w.none refl v.0 (less v.1 h) v.1 (ap (λ x. used_before ids x x) v.2 ∙ t)))
      where
        less : {x y z : ℕ} → x < y → y ≤ z → x < z
        less f g = omega arith
    least-end i (suc k) w h =
        let z : suc k ≡ k + 1 = omega arith in
        let r = w.repeats k z in
        z ∙ sym (repeat_some 0 (length order) k (omega arith) (omega (arith, r.1)) r.0 (λ m a b t.
        let v = stands ids order o m (before b r.1) in
        let y : k ≤ m = subst (λ x. k ≤ x) v.2 (w.least k z v.0 (less v.1 h) v.1 (ap (λ x. used_before ids x x) v.2 ∙ t)) in
        omega arith))
      where
        less : {x y z : ℕ} → x < y → y ≤ z → x < z
        less f g = omega arith

        before : {x y z : ℕ} → x < y → y < z → x < z
        before f g = omega arith
