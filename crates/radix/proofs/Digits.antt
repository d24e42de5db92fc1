-- Digits and numbers are one to one, over any list of bases: digits below their bases come back from their number, and a number
-- below the weight comes back from its digits. Both by induction on the bases, over any number `acc` of the digits before.
use mathlib.Core.List.{List, [], ◌∷◌}
use mathlib.Core.Path.{◌≡◌, refl, sym, ◌∙◌}
use Prim.Native.Nat.{ℕ, ◌+◌, ◌*◌, ◌/◌, ◌^◌, ◌<◌, ◌≤◌}
use native.Mathlib.Nat.{add_assoc, add-mul, add-zero, div-add-mod', div-div-eq-div-mul, div-eq_of_lt, div-one, lt_of_lt_of_le, mul_assoc, mul_comm, mul-one, pow-le-pow_right, pow-suc, zero-add, zero-mul}
use native.Mathlib.Numerals.{add-one}
use native.Mathlib.Omega.{arith}
use lib.Arith.{digits_lt, digits_div, digits_mod}
use Rattle.radix.specs.Radix.{weight, number_from, number, digits, Fit}

-- the digits before count as often as the weight of those that follow
pub number-from : (ms vs : List ℕ) (acc : ℕ) → Fit ms vs → number_from acc ms vs ≡ acc * weight ms + number ms vs
unfolding number_from number weight
number-from [] [] acc h = sym (add-zero (acc * 1) ∙ mul-one acc)
number-from (m ∷ ms) (v ∷ vs) acc h =
    rw (number-from ms vs (acc * m + v) h.1, number-from ms vs (0 * m + v) h.1, zero-mul, zero-add, add-mul, mul_assoc, add_assoc)
number-from [] (v ∷ vs) acc h = elim h [ ]
number-from (m ∷ ms) [] acc h = elim h [ ]

pub number-below : (ms vs : List ℕ) → Fit ms vs → number ms vs < weight ms
unfolding number_from number weight
number-below [] [] h = omega arith
number-below (m ∷ ms) (v ∷ vs) h =
    rw (number-from ms vs (0 * m + v) h.1, zero-mul, zero-add) (digits_lt h.0 (number-below ms vs h.1))
number-below [] (v ∷ vs) h = elim h [ ]
number-below (m ∷ ms) [] h = elim h [ ]

digits-number_from : (ms vs : List ℕ) (acc : ℕ) → Fit ms vs → digits ms (number_from acc ms vs) ≡ vs
unfolding number_from digits
digits-number_from [] [] acc h = refl
digits-number_from (m ∷ ms) (v ∷ vs) acc h =
    rw (digits-number_from ms vs (acc * m + v) h.1, number-from ms vs (acc * m + v) h.1, digits_div (acc * m + v) (number-below ms vs h.1), digits_mod acc h.0)
digits-number_from [] (v ∷ vs) acc h = elim h [ ]
digits-number_from (m ∷ ms) [] acc h = elim h [ ]

number_from-digits : (ms : List ℕ) (n : ℕ) → number_from (n / weight ms) ms (digits ms n) ≡ n
unfolding number_from digits weight
number_from-digits [] n = div-one n
number_from-digits (m ∷ ms) n =
    rw (mul_comm m (weight ms), ← div-div-eq-div-mul n (weight ms) m, div-add-mod' (n / weight ms) m) (number_from-digits ms n)

-- what digits spell has these digits
pub digits_number : (ms vs : List ℕ) → Fit ms vs → digits ms (number ms vs) ≡ vs
unfolding number
digits_number ms vs h = digits-number_from ms vs 0 h

-- a number's digits spell it
pub number_digits : (ms : List ℕ) (n : ℕ) → n < weight ms → number ms (digits ms n) ≡ n
unfolding number
number_digits ms n h = rw (div-eq_of_lt h) at (number_from-digits ms n)

-- one digit more, in any base
pub one_more_lem : (m i : ℕ) {n d : ℕ} → n < m ^ i → d < m → n * m + d < m ^ (i + 1)
one_more_lem m i {n} {d} h l = rw (add-one i, pow-suc m i) (digits_lt h l)

pub at_most : (m : ℕ) {i k n : ℕ} → 0 < m → i ≤ k → n < m ^ i → n < m ^ k
at_most m p h l = lt_of_lt_of_le l (pow-le-pow_right p h)
