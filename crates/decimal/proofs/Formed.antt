-- Every decimal that is read is in the form: a run of n digits is below 10 ^ n, and the sign is kept only on a number that is not 0.
use mathlib.Core.Bool.{Bool, true, false, not}
use mathlib.Core.List.{List, [], ◌∷◌}
use mathlib.Core.Path.{◌≡◌, refl, ap, subst, ◌∙◌}
use Prim.Native.Nat.{ℕ, ◌+◌, ◌-◌, ◌*◌, ◌^◌, ◌<◌, ◌≤◌}
use native.Mathlib.Nat.{le-mul_of_pos_right, mul-lt-mul_of_pos_right, one-le-pow}
use native.Mathlib.Omega.{arith}
use lib.Dec.{eqb, leb}
use lib.ListN.{length, drop}
use borrow.Author.Tests.{eqb-false, leb-true, not-true}
use Rattle.notation.specs.Choice.{◌⇒◌else◌, ◌and◌}
use Rattle.notation.proofs.Booleans.{and_both}
use Rattle.radix.proofs.Digits.{at_most}
use Rattle.lexeme.specs.Read.Read.{done}
use Rattle.lexeme.specs.Numbers.{digits, both as both', integer, fraction}
use Rattle.decimal.specs.declared.Decimal.{Decimal}
use Rattle.decimal.specs.Decimals.{value_of, decimal_of, formed, behind_point, behind_whole, number_of, unsigned, priced_as, price_of}
use Rattle.decimal.specs.Exact.{unit}
use Rattle.decimal.specs.inner.Formed.{Formed}
use Rattle.decimal.specs.inner.Spelling.{front}
use Rattle.decimal.proofs.Runs.{digits-front, front-value, power_split, value-from}
use Rattle.std.specs.Prelude.{Option, Ok, Err, Some, None}
use Rattle.decimal.specs.declared.PriceError.TheVariants.{NoNumber}

chosen : (t : Bool) (x : Option Decimal) (d : Decimal) → (t ⇒ x else None) ≡ Some d → (t ≡ true) × (x ≡ Some d)
chosen true x d e = (refl, e)
chosen false x d e = let z : ◌≡◌ {A = ℕ} 0 1 = cc in absurd (omega arith)

none : {d : Decimal} → None ≡ Some d → Formed d
none e = let z : ◌≡◌ {A = ℕ} 0 1 = cc in absurd (omega arith)

-- the digits before the point are the run of some text l, and those behind it of some text t
module _ (negative : Bool) (l t : List ℕ) (h : length (front l) ≤ 12) (k : length (front t) ≤ 18) where
  whole_below : value_of (front l) < 10 ^ 12
  whole_below = rw value-from at (at_most 10 (omega arith) h (front-value l))

  power : ℕ
  power = 10 ^ (18 - length (front t))

  part-below : value_of (front t) * power < unit
  unfolding power
  part-below =
      rw (value-from, power_split (length (front t)) k) at
      (mul-lt-mul_of_pos_right (front-value t) (one-le-pow (18 - length (front t)) 10 (omega arith)))

  decimal-formed : Formed (decimal_of negative (front l) (front t))
  unfolding decimal_of
  decimal-formed = record { whole = whole_below; part = unfold power in part-below; sign = positive }
    where
      v : ℕ
      v = value_of (front l)

      f : ℕ
      f = value_of (front t)

      positive : (negative and not (eqb (v + f) 0)) ≡ true → 0 < v * unit + f * 10 ^ (18 - length (front t))
      positive e =
          let n = eqb-false (v + f) 0 (not-true (eqb (v + f) 0) (and_both negative (not (eqb (v + f) 0)) e).1) in
          omega (arith, n, le-mul_of_pos_right f (one-le-pow (18 - length (front t)) 10 (omega arith)))

module _ (negative : Bool) (l : List ℕ) (d : Decimal) where
  formed-formed : (t : List ℕ) → formed negative (front l) (front t) ≡ Some d → Formed d
  unfolding formed
  formed-formed t e =
      let within = leb (length (front l)) 12 and leb (length (front t)) 18 in
      let made = chosen within (Some (decimal_of negative (front l) (front t))) d e in
      let tests = and_both (leb (length (front l)) 12) (leb (length (front t)) 18) made.0 in
      let same : decimal_of negative (front l) (front t) ≡ d = cc in
      subst Formed same (decimal-formed negative l t (leb-true _ _ tests.0) (leb-true _ _ tests.1))

  point-formed : (t : List ℕ) → behind_point negative (front l) (digits t) ≡ Some d → Formed d
  unfolding behind_point
  point-formed t e = go (drop (length (front t)) t) (rw (digits-front t) at e)
    where
      go : (r : List ℕ) → behind_point negative (front l) (done (front t) r) ≡ Some d → Formed d
      go [] e = formed-formed t e
      go (b ∷ r) e = none e

  whole-formed : behind_whole negative (digits l) ≡ Some d → Formed d
  unfolding behind_whole
  whole-formed e = go (drop (length (front l)) l) (rw (digits-front l) at e)
    where
      go : (r : List ℕ) → behind_whole negative (done (front l) r) ≡ Some d → Formed d
      go [] e = formed-formed [] (unfold front in e)
      go (b ∷ r) e = point-formed r (chosen (eqb b 0x2e) (behind_point negative (front l) (digits r)) d e).1

-- what is read of a spelling
pub number-formed : (s : List ℕ) (d : Decimal) → number_of s ≡ Some d → Formed d
unfolding number_of
number-formed [] d e = none e
number-formed (b ∷ r) d e = go (eqb b 0x2d) e
  where
    go : (t : Bool) → (t ⇒ behind_whole true (digits r) else behind_whole false (digits (b ∷ r))) ≡ Some d → Formed d
    go true e = whole-formed true r d e
    go false e = whole-formed false (b ∷ r) d e

-- what is read of a price's text
pub price-formed : (s : List ℕ) (d : Decimal) → price_of s ≡ Ok d → Formed d
unfolding price_of
price-formed s d e = go (unsigned (both' integer fraction s)) (number_of s) refl e
  where
    go : (t : Bool) (n : Option Decimal) → number_of s ≡ n → (t ⇒ priced_as n else Err NoNumber) ≡ Ok d → Formed d
    go true (Some x) q e = number-formed s d (q ∙ let same : x ≡ d = cc in ap Some same)
    go true None q e = let z : ◌≡◌ {A = ℕ} 0 1 = cc in absurd (omega arith)
    go false n q e = let z : ◌≡◌ {A = ℕ} 0 1 = cc in absurd (omega arith)
