-- The search by halves. Each read leaves at most half of the positions, so that 14 reads are enough for fewer than 2 ^ 14. What is met is what is wanted; and
-- where some position has that, and the probe tells of every other on which side it lies, the half that is left out does not have it.
use mathlib.Core.Path.{◌≡◌, refl, sym, ap, ◌∙◌}
use Prim.Native.Nat.{ℕ, zero, suc, ◌+◌, ◌-◌, ◌/◌, ◌^◌, ◌≤◌, ◌<◌}
use native.Mathlib.Nat.{lt_of_le_of_lt}
use native.Mathlib.Omega.{arith}
use lib.Dec.{ltb}
use borrow.Author.Tests.{lt-ltb, le-ltb, ltb-true, ltb-false}
use Rattle.notation.proofs.Booleans.{by_test}
use Rattle.sorting.specs.declared.Lookup.{Lookup}
use Rattle.sorting.specs.inner.Halves.{middle, found_by}
use Rattle.sorting.proofs.Records.{by_cases}
use Rattle.std.specs.declared.cmp.Ordering.{Ordering}
use Rattle.std.specs.declared.cmp.Ordering.TheVariants.{Less, Equal, Greater}

-- half of what is left
halve : (left d : ℕ) → 0 < d → d < 2 ^ left → (1 ≤ left) × (d / 2 < 2 ^ (left - 1))
halve zero d g h = absurd (omega arith)
halve (suc v) d g h = let e : suc v - 1 ≡ v = omega arith in (omega arith, rw e (omega arith))

lookup_is : (m n left : ℕ) → m ≡ n → ◌≡◌ {A = Lookup} (record { met = m; left = left }) (record { met = n; left = left })
lookup_is m n left e = ap (λ (k : ℕ). record { met = k; left = left }) e

module _ (probe : ℕ → Ordering) where
  -- one step
  found_spent : (lo hi : ℕ) → found_by probe 0 lo hi ≡ record { met = 0; left = 0 }
  unfolding found_by
  found_spent lo hi = refl

  found_out : (reads lo hi : ℕ) → hi ≤ lo → found_by probe reads lo hi ≡ record { met = 0; left = reads }
  unfolding found_by
  found_out zero lo hi h = refl
  found_out (suc reads) lo hi h = rw (found_by, le-ltb lo hi h)

  module _ (reads lo hi : ℕ) (h : lo < hi) where
    found_less : probe (middle lo hi) ≡ Less → found_by probe (suc reads) lo hi ≡ found_by probe reads (middle lo hi + 1) hi
    unfolding found_by
    found_less e = rw (found_by, lt-ltb lo hi h, e)

    found-equal : probe (middle lo hi) ≡ Equal → found_by probe (suc reads) lo hi ≡ record { met = middle lo hi + 1; left = reads }
    unfolding found_by
    found-equal e = rw (found_by, lt-ltb lo hi h, e)

    found_greater : probe (middle lo hi) ≡ Greater → found_by probe (suc reads) lo hi ≡ found_by probe reads lo (middle lo hi)
    unfolding found_by
    found_greater e = rw (found_by, lt-ltb lo hi h, e)

  module _ (n : ℕ) where
    -- the positions from lo up to hi are left, and some reads
    pub record Halving (left lo hi : ℕ) : Type 0 where
      pub inside : hi ≤ n
      pub few : hi - lo < 2 ^ left
      pub whole : found_by probe left lo hi ≡ found_by probe 14 0 n

    pub halving_start : n < 2 ^ 14 → Halving 14 0 n
    halving_start h = record { inside = omega arith; few = omega arith; whole = refl }

    module _ (left lo hi : ℕ) (w : Halving left lo hi) where
      pub halving_end : (met : ℕ) → met ≡ 0 → hi ≤ lo → record { met = met; left = left } ≡ found_by probe 14 0 n
      halving_end met e h = lookup_is met 0 left e ∙ sym (found_out left lo hi h) ∙ w.whole

      module _ (h : lo < hi) where
        pub reads-left : 1 ≤ left
        reads-left = (halve left (hi - lo) (omega arith) w.few).0

        -- one read less, as the definition counts them
        one_less : found_by probe (suc (left - 1)) lo hi ≡ found_by probe 14 0 n
        one_less = let r = reads-left in let z : suc (left - 1) ≡ left = omega arith in ap (λ r. found_by probe r lo hi) z ∙ w.whole

        fewer : (hi - lo) / 2 < 2 ^ (left - 1)
        fewer = (halve left (hi - lo) (omega arith) w.few).1

        pub halving_less : probe (middle lo hi) ≡ Less → Halving (left - 1) (middle lo hi + 1) hi
        halving_less e =
            let q : hi - (lo + (hi - lo) / 2 + 1) ≤ (hi - lo) / 2 = omega arith in
            record { inside = w.inside; few = lt_of_le_of_lt q fewer; whole = sym (found_less (left - 1) lo hi h e) ∙ one_less }

        pub halving_greater : probe (middle lo hi) ≡ Greater → Halving (left - 1) lo (middle lo hi)
        halving_greater e =
            let q : lo + (hi - lo) / 2 - lo ≤ (hi - lo) / 2 = omega arith in
            record { inside = omega (arith, w.inside); few = lt_of_le_of_lt q fewer; whole = sym (found_greater (left - 1) lo hi h e) ∙ one_less }

        pub halving_met : (met : ℕ) → met ≡ middle lo hi + 1 → probe (middle lo hi) ≡ Equal → record { met = met; left = left - 1 } ≡ found_by probe 14 0 n
        halving_met met k e = lookup_is met (middle lo hi + 1) (left - 1) k ∙ sym (found-equal (left - 1) lo hi h e) ∙ one_less

  -- a position that is met has what is wanted
  pub found_here : (reads lo hi k : ℕ) → (found_by probe reads lo hi).met ≡ k + 1 → (k < hi) × (probe k ≡ Equal)
  found_here zero lo hi k e = let z : 0 ≡ k + 1 = ap (λ (f : Lookup). f.met) (sym (found_spent lo hi)) ∙ e in absurd (omega arith)
  found_here (suc reads) lo hi k e =
      by_test (ltb lo hi)
      (λ t.
      let h : lo < hi = ltb-true lo hi t in
      by_cases (probe (middle lo hi))
      (λ a. found_here reads (middle lo hi + 1) hi k (ap (λ (f : Lookup). f.met) (sym (found_less reads lo hi h a)) ∙ e))
      (λ a.
      let z : lo + (hi - lo) / 2 + 1 ≡ k + 1 = ap (λ (f : Lookup). f.met) (sym (found-equal reads lo hi h a)) ∙ e in
      let y : k ≡ lo + (hi - lo) / 2 = omega arith in
      (omega arith, ap probe y ∙ a))
      λ a.
      let v = found_here reads lo (middle lo hi) k (ap (λ (f : Lookup). f.met) (sym (found_greater reads lo hi h a)) ∙ e) in (omega (arith, v.0), v.1))
      λ t. let z : 0 ≡ k + 1 = ap (λ (f : Lookup). f.met) (sym (found_out (suc reads) lo hi (ltb-false lo hi t))) ∙ e in absurd (omega arith)

  -- where the position k has it, something is met
  module _ (k n : ℕ) (before : (i : ℕ) → i < n → probe i ≡ Less → i < k) (after : (i : ℕ) → i < n → probe i ≡ Greater → k < i) where
    pub found_some : (reads lo hi : ℕ) → hi ≤ n → hi - lo < 2 ^ reads → lo ≤ k → k < hi → (found_by probe reads lo hi).met ≡ 0 → ⊥
    found_some zero lo hi g w l r e = omega arith
    found_some (suc reads) lo hi g w l r e =
        let h : lo < hi = omega arith in
        let q : (hi - lo) / 2 < 2 ^ reads = omega arith in
        let m : lo + (hi - lo) / 2 < n = omega arith in
        by_cases (probe (middle lo hi))
        (λ a.
        let b : lo + (hi - lo) / 2 < k = before (lo + (hi - lo) / 2) m a in
        found_some reads (lo + (hi - lo) / 2 + 1) hi g (omega arith) (omega arith) r (ap (λ (f : Lookup). f.met) (sym (found_less reads lo hi h a)) ∙ e))
        (λ a. let z : lo + (hi - lo) / 2 + 1 ≡ 0 = ap (λ (f : Lookup). f.met) (sym (found-equal reads lo hi h a)) ∙ e in omega arith)
        λ a.
        let b : k < lo + (hi - lo) / 2 = after (lo + (hi - lo) / 2) m a in
        found_some reads lo (lo + (hi - lo) / 2) (omega arith) (omega arith) l b (ap (λ (f : Lookup). f.met) (sym (found_greater reads lo hi h a)) ∙ e)
