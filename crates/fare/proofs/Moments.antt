-- The closed form counts the listed moments: a moment is charged exactly where it is below the segment's bound, and from one moment to
-- the next the quotient falls by one.
use mathlib.Core.Bool.{Bool, true, false}
use mathlib.Core.List.{[], ◌∷◌}
use mathlib.Core.Path.{◌≡◌, refl, sym, ap, ◌∙◌}
use Prim.Native.Nat.{ℕ, zero, suc, ◌+◌, ◌-◌, ◌/◌, ◌≤◌, ◌<◌}
use native.Mathlib.Decide.{dec_le}
use native.Mathlib.Nat.{div-eq_of_lt, div-eq-sub-div, div-le_self}
use native.Mathlib.Omega.{arith}
use lib.Dec.{eqb, leb, ltb}
use lib.ListN.{length}
use borrow.Author.Tests.{leb-true, leb-false, eqb-true, eqb-false, lt-ltb, le-ltb, le-leb, lt-leb, eq-eqb, ne_eqb}
use Rattle.std.specs.Prelude.{Option, None, Some, is_some, unwrap_or, min}
use Rattle.std.specs.Option.{option_map_or}
use Rattle.std.proofs.lemmas.Bool.Decides.{nat_tests}
use Rattle.notation.specs.Choice.{◌⇒◌else◌, ◌and◌}
use Rattle.notation.proofs.Booleans.{true-false, and-true}
use Rattle.fare.specs.declared.Segment.{Segment}
use Rattle.fare.specs.Charges.{charged, moments_from, moments}
use Rattle.fare.specs.inner.Folds.{bound_of, count_below}

-- the bound
pub bound_end : (s : Segment) (ride : ℕ) → is_some s.end ≡ true → unwrap_or s.end 0 ≤ ride → bound_of s ride ≡ unwrap_or s.end 0
bound_end s ride e h = go s.end e h
  where
    go : (end : Option ℕ) → is_some end ≡ true → unwrap_or end 0 ≤ ride → option_map_or (λ t. min t (ride + 1)) end (ride + 1) ≡ unwrap_or end 0
    go None e h = true-false e refl
    go (Some end) e h = omega arith

less_more : (t ride : ℕ) → leb t ride ≡ ltb t (ride + 1)
less_more t ride = grind (arith, nat_tests)

module _ (s : Segment) (ride : ℕ) where
  pub bound_most : bound_of s ride ≤ ride + 1
  bound_most = go s.end
    where
      go : (end : Option ℕ) → option_map_or (λ t. min t (ride + 1)) end (ride + 1) ≤ ride + 1
      go None = omega arith
      go (Some end) = omega arith

  charged-below : (t : ℕ) → charged s ride t ≡ ltb t (bound_of s ride)
  unfolding charged
  charged-below t = go s.end
    where
      go : (end : Option ℕ) → (leb t ride and option_map_or (λ end. ltb t end) end true) ≡ ltb t (option_map_or (λ t. min t (ride + 1)) end (ride + 1))
      go None = and-true (leb t ride) ∙ less_more t ride
      go (Some end) = grind (arith, nat_tests)

-- the ways through the closed form
module _ (bound start interval : ℕ) where
  pub count_none : bound ≤ start → count_below bound start interval ≡ 0
  unfolding count_below
  count_none h = rw (le-leb bound start h)

  pub count-once : start < bound → interval ≡ 0 → count_below bound start interval ≡ 1
  unfolding count_below
  count-once h e = rw (lt-leb bound start h, eq-eqb interval 0 e)

  pub count-many : start < bound → (interval ≡ 0 → ⊥) → count_below bound start interval ≡ (bound - 1 - start) / interval + 1
  unfolding count_below
  count-many h n = rw (lt-leb bound start h, ne_eqb interval 0 n)

  count_most : count_below bound start interval ≤ bound
  count_most = go (leb bound start) refl (eqb interval 0) refl
    where
      go : (a : Bool) → leb bound start ≡ a → (b : Bool) → eqb interval 0 ≡ b → count_below bound start interval ≤ bound
      go true e b f = omega (arith, count_none (leb-true _ _ e))
      go false e true f = let h : start < bound = leb-false _ _ e in omega (arith, count-once h (eqb-true _ _ f))
      go false e false f =
          let h : start < bound = leb-false _ _ e in
          omega (arith, count-many h (eqb-false _ _ f), div-le_self (bound - 1 - start) interval)

-- one moment more
count_next : (bound start interval : ℕ) → (interval ≡ 0 → ⊥) → start < bound
    → count_below bound start interval ≡ suc (count_below bound (start + interval) interval)
count_next bound start interval n h = go (dec_le bound (start + interval))
  where
    go : Dec (bound ≤ start + interval) → count_below bound start interval ≡ suc (count_below bound (start + interval) interval)
    go (yes k) =
        let l : bound - 1 - start < interval = omega arith in
        omega (arith, count-many bound start interval h n, div-eq_of_lt l, count_none bound (start + interval) interval k)
    go (no k) =
        let l : interval ≤ bound - 1 - start = omega arith in
        let p : 0 < interval = omega arith in
        let q : bound - 1 - start - interval ≡ bound - 1 - (start + interval) = omega arith in
        omega (
          arith,
          count-many bound start interval h n,
          div-eq-sub-div p l,
          ap (λ (x : ℕ). x / interval) q,
          count-many bound (start + interval) interval (omega arith) n,
        )

module _ (s : Segment) (ride : ℕ) where
  from-charged : (n t : ℕ) → t < bound_of s ride → moments_from s ride (suc n) t ≡ t ∷ moments_from s ride n (t + s.interval)
  unfolding moments_from
  from-charged n t h = rw (moments_from, charged-below s ride t, lt-ltb t (bound_of s ride) h)

  from-none : (n t : ℕ) → bound_of s ride ≤ t → moments_from s ride n t ≡ []
  unfolding moments_from
  from-none zero t h = refl
  from-none (suc n) t h = rw (moments_from, charged-below s ride t, le-ltb t (bound_of s ride) h)

  -- listed as far as the bound
  from-counted : (s.interval ≡ 0 → ⊥) → (n t : ℕ) → bound_of s ride ≤ t + n
      → length (moments_from s ride n t) ≡ count_below (bound_of s ride) t s.interval
  from-counted p zero t h =
      let k : bound_of s ride ≤ t = omega arith in ap length (from-none zero t k) ∙ sym (count_none (bound_of s ride) t s.interval k)
  from-counted p (suc n) t h = go (dec_le (bound_of s ride) t) (from-counted p n (t + s.interval) (omega arith))
    where
      go : Dec (bound_of s ride ≤ t)
          → length (moments_from s ride n (t + s.interval)) ≡ count_below (bound_of s ride) (t + s.interval) s.interval
          → length (moments_from s ride (suc n) t) ≡ count_below (bound_of s ride) t s.interval
      go (yes k) ih = ap length (from-none (suc n) t k) ∙ sym (count_none (bound_of s ride) t s.interval k)
      go (no k) ih =
          let l : t < bound_of s ride = omega arith in
          ap length (from-charged n t l) ∙ ap suc ih ∙ sym (count_next (bound_of s ride) t s.interval p l)

  -- the start alone
  from-once : s.interval ≡ 0 → length (moments_from s ride 1 s.start) ≡ count_below (bound_of s ride) s.start s.interval
  unfolding moments_from
  from-once e = go (dec_le (bound_of s ride) s.start)
    where
      go : Dec (bound_of s ride ≤ s.start) → length (moments_from s ride 1 s.start) ≡ count_below (bound_of s ride) s.start s.interval
      go (yes k) = ap length (from-none 1 s.start k) ∙ sym (count_none (bound_of s ride) s.start s.interval k)
      go (no k) =
          let l : s.start < bound_of s ride = omega arith in
          ap length (from-charged 0 s.start l) ∙ sym (count-once (bound_of s ride) s.start s.interval l e)

  pub moments-counted : length (moments s ride) ≡ count_below (bound_of s ride) s.start s.interval
  unfolding moments
  moments-counted = go (eqb s.interval 0) refl
    where
      go : (b : Bool) → eqb s.interval 0 ≡ b
          → length (moments_from s ride (b ⇒ 1 else ride + 1) s.start) ≡ count_below (bound_of s ride) s.start s.interval
      go true e = from-once (eqb-true _ _ e)
      go false e = from-counted (eqb-false _ _ e) (ride + 1) s.start (omega (arith, bound_most s ride))

  pub moments-most : length (moments s ride) ≤ ride + 1
  moments-most = omega (arith, moments-counted, count_most (bound_of s ride) s.start s.interval, bound_most s ride)

  pub moments-below : (bound : ℕ) → bound ≡ bound_of s ride → count_below bound s.start s.interval ≡ length (moments s ride)
  moments-below bound e = rw e (sym moments-counted)
