-- The listed moments of a segment are the due ones, each once: they go from the start by intervals for as long as a moment is charged, an earlier moment is
-- charged where a later one is, and a ride has no room for more of them than are listed at most.
use mathlib.Core.Bool.{Bool, true, false}
use mathlib.Core.List.{[], ◌∷◌, Memᴰ}
use mathlib.Core.Logic.{⊎_elim}
use mathlib.Core.Path.{◌≡◌, refl, sym, ap, subst, ◌∙◌}
use Prim.Native.Nat.{ℕ, zero, suc, ◌+◌, ◌*◌, ◌≤◌, ◌<◌}
use native.Mathlib.Nat.{zero-mul, mul-zero, suc-mul, le-mul_of_pos_right}
use native.Mathlib.Omega.{arith}
use lib.Dec.{eqb, leb, ltb}
use borrow.Author.Tests.{leb-true, ltb-true, eqb-true, eqb-false, le-leb, lt-ltb}
use Rattle.std.specs.Prelude.{Option, None, Some, IfSome}
use Rattle.std.specs.Option.{option_map_or}
use Rattle.std.proofs.lemmas.Option.{IfSome_then}
use Rattle.notation.specs.Choice.{◌⇒◌else◌, ◌and◌}
use Rattle.notation.proofs.Booleans.{by_test, and_left, and_right}
use Rattle.fare.specs.declared.Segment.{Segment}
use Rattle.fare.specs.Charges.{charged, moments_from, moments, charge}
use Rattle.verdict.specs.Demand2.{Due, Rising, none, more, DueCharges}

module _ (x : Segment) (ride : ℕ) where
  -- the test of a moment
  test_within : (t : ℕ) → charged x ride t ≡ true → t ≤ ride
  unfolding charged
  test_within t e = leb-true t ride (and_left (leb t ride) _ e)

  test_unended : (t : ℕ) → charged x ride t ≡ true → IfSome x.end (λ end. t < end)
  unfolding charged
  test_unended t e = go x.end (and_right (leb t ride) _ e)
    where
      go : (o : Option ℕ) → option_map_or (λ end. ltb t end) o true ≡ true → IfSome o (λ end. t < end)
      go None h = tt
      go (Some end) h = ltb-true t end h

  test_due : (t : ℕ) → t ≤ ride → IfSome x.end (λ end. t < end) → charged x ride t ≡ true
  unfolding charged
  test_due t h k = ap (λ (b : Bool). b and option_map_or (λ end. ltb t end) x.end true) (le-leb t ride h) ∙ go x.end k
    where
      go : (o : Option ℕ) → IfSome o (λ end. t < end) → option_map_or (λ end. ltb t end) o true ≡ true
      go None h = refl
      go (Some end) h = lt-ltb t end h

  -- one moment and those after it
  module _ (most t : ℕ) where
    from-here : charged x ride t ≡ true → moments_from x ride (suc most) t ≡ t ∷ moments_from x ride most (t + x.interval)
    unfolding moments_from
    from-here e = rw (e, moments_from)

    from_end : charged x ride t ≡ false → moments_from x ride (suc most) t ≡ []
    unfolding moments_from
    from_end e = rw (e, moments_from)

    -- by what holds of the first and of the rest
    from_cases : {P : ℕ → Type 0} → (charged x ride t ≡ true → P t) → ((u : ℕ) → Memᴰ u (moments_from x ride most (t + x.interval)) → P u)
        → (u : ℕ) → Memᴰ u (moments_from x ride (suc most) t) → P u
    from_cases {P} first rest u m =
        by_test (charged x ride t)
        (λ e. ⊎_elim (λ (h : u ≡ t). subst P (sym h) (first e)) (rest u) (mathlib.Core.List.Memᴰ.cases_cons (subst (Memᴰ u) (from-here e) m)))
        (λ f. absurd (mathlib.Core.List.Memᴰ.not-nil (subst (Memᴰ u) (from_end f) m)))

  from-due : (most t n : ℕ) → t ≡ x.start + n * x.interval → (u : ℕ) → Memᴰ u (moments_from x ride most t) → Due x ride u
  unfolding moments_from
  from-due zero t n e u m = absurd (mathlib.Core.List.Memᴰ.not-nil m)
  from-due (suc most) t n e u m =
      let next = from-due most (t + x.interval) (suc n) (omega (arith, suc-mul n x.interval)) in
      from_cases most t (λ c. record { intervals = n; at = e; within = test_within t c; unended = test_unended t c }) next u m

  from_low : (most t u : ℕ) → Memᴰ u (moments_from x ride most t) → t ≤ u
  unfolding moments_from
  from_low zero t u m = absurd (mathlib.Core.List.Memᴰ.not-nil m)
  from_low (suc most) t u m =
      let next = from_low most (t + x.interval) in
      from_cases most t {P = λ (u : ℕ). t ≤ u} (λ c. omega arith) (λ v k. let h = next v k in omega arith) u m

  -- a due moment, so many intervals on
  from_all : (most t n u : ℕ) → u ≡ t + n * x.interval → n < most → u ≤ ride → IfSome x.end (λ end. u < end) → Memᴰ u (moments_from x ride most t)
  from_all zero t n u e h within unended = absurd (omega arith)
  from_all (suc most) t zero u e h within unended =
      let same : u ≡ t = omega (arith, zero-mul x.interval) in
      subst (Memᴰ u) (sym (from-here most t (ap (charged x ride) (sym same) ∙ test_due u within unended))) (mathlib.Core.List.Memᴰ.head same)
  from_all (suc most) t (suc n) u e h within unended =
      let step = suc-mul n x.interval in
      let later = from_all most (t + x.interval) n u (omega arith) (omega arith) within unended in
      subst (Memᴰ u) (sym (from-here most t (test_due t (omega arith) (IfSome_then x.end unended (λ end k. omega arith))))) (mathlib.Core.List.Memᴰ.tail later)

  rising-from : (most t : ℕ) → ((u : ℕ) → Memᴰ u (moments_from x ride most (t + x.interval)) → t < u) → Rising (moments_from x ride most (t + x.interval))
      → Rising (moments_from x ride (suc most) t)
  rising-from most t first rest =
      by_test (charged x ride t) (λ e. subst Rising (sym (from-here most t e)) (more first rest)) (λ f. subst Rising (sym (from_end most t f)) none)

  rising : (most t : ℕ) → 0 < x.interval → Rising (moments_from x ride most t)
  unfolding moments_from
  rising zero t h = none
  rising (suc most) t h =
      let rest = rising most (t + x.interval) h in
      rising-from most t (λ u m. let k = from_low most (t + x.interval) u m in omega arith) rest

  rising-one : (t : ℕ) → Rising (moments_from x ride 1 t)
  unfolding moments_from
  rising-one t = rising-from 0 t (λ u m. absurd (mathlib.Core.List.Memᴰ.not-nil m)) none

  -- how many are listed at most: one where the interval is 0
  module _ (most : ℕ) (e : moments x ride ≡ moments_from x ride most x.start) (rises : Rising (moments_from x ride most x.start))
      (enough : (t : ℕ) → Due x ride t → (n : ℕ) × (t ≡ x.start + n * x.interval) × (n < most)) where
    listed : DueCharges x ride
    unfolding charge
    listed =
        record {
          moments = moments x ride;
          once = subst Rising (sym e) rises;
          due = λ t m. from-due most x.start 0 (omega (arith, zero-mul x.interval)) t (subst (Memᴰ t) e m);
          all = λ t d. let k = enough t d in subst (Memᴰ t) (sym e) (from_all most x.start k.0 t k.1 k.2 d.within d.unended);
          sum = refl;
        }

  pub charge-due : DueCharges x ride
  unfolding moments
  charge-due =
      by_test (eqb x.interval 0)
      (λ t.
      let z = eqb-true x.interval 0 t in
      listed 1 (ap (λ (b : Bool). moments_from x ride (b ⇒ 1 else ride + 1) x.start) t) (rising-one x.start)
      (λ u d. (0, d.at ∙ ap (λ (n : ℕ). x.start + n) (ap (λ (i : ℕ). d.intervals * i) z ∙ mul-zero d.intervals ∙ sym (zero-mul x.interval)), omega arith)))
      (λ f.
      let z = eqb-false x.interval 0 f in
      let some : 0 < x.interval = positive x.interval z in
      listed (ride + 1) (ap (λ (b : Bool). moments_from x ride (b ⇒ 1 else ride + 1) x.start) f) (rising (ride + 1) x.start some)
      (λ u d. let k = le-mul_of_pos_right d.intervals some in let a = d.at in let w = d.within in (d.intervals, a, omega arith)))
    where
      positive : (n : ℕ) → (n ≡ 0 → ⊥) → 0 < n
      positive zero h = absurd (h refl)
      positive (suc n) h = omega arith
