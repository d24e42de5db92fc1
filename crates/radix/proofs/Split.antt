-- A number cut in two where a digit ends: its digits are those of both halves, one after the other, since what stands above some digits does not change
-- them, nor does what stands below. So a layout of more than 64 bits is written and read as two numbers.
use mathlib.Core.List.{List, [], ◌∷◌, ◌++◌}
use mathlib.Core.Path.{◌≡◌, refl, sym, ap, ◌∙◌}
use Prim.Native.Nat.{ℕ, zero, suc, ◌+◌, ◌*◌, ◌/◌, ◌<◌}
use native.Mathlib.Nat.{div-div-eq-div-mul, mul-add-div_right, mul-add-mod_self_right, mul_assoc, mul_comm, mul-zero, one-mul}
use native.Mathlib.Omega.{arith}
use lib.Arith.{digits_div}
use Rattle.radix.specs.Radix.{weight, number_from, number, digits, Fit}
use Rattle.radix.proofs.Digits.{number-from}

pub weight_append : (ms ns : List ℕ) → weight (ms ++ ns) ≡ weight ms * weight ns
unfolding weight
weight_append [] ns = sym (one-mul (weight ns))
weight_append (m ∷ ms) ns = rw (weight_append ms ns, mul_assoc)

-- a product with a factor that is not zero
factor_pos : (m w : ℕ) → 0 < m * w → 0 < w
factor_pos m zero h = absurd (omega (arith, mul-zero m))
factor_pos m (suc w) h = omega arith

-- what stands above the digits
digits_above : (ns : List ℕ) (h l : ℕ) → 0 < weight ns → digits ns (h * weight ns + l) ≡ digits ns l
unfolding digits weight
digits_above [] h l p = refl
digits_above (m ∷ ms) h l p =
    let q = factor_pos m (weight ms) p in
    rw (← mul_assoc h m (weight ms), mul-add-div_right q (h * m) l, mul-add-mod_self_right h m (l / weight ms), digits_above ms (h * m) l q)

-- what stands below them
digits-below : (ms ns : List ℕ) (h l : ℕ) → l < weight ns → digits (ms ++ ns) (h * weight ns + l) ≡ digits ms h ++ digits ns (h * weight ns + l)
unfolding digits
digits-below [] ns h l b = refl
digits-below (m ∷ ms) ns h l b =
    rw (digits-below ms ns h l b, weight_append ms ns, mul_comm (weight ms) (weight ns), ← div-div-eq-div-mul (h * weight ns + l) (weight ns) (weight ms), digits_div h b)

pub digits_split : (ms ns : List ℕ) (h l : ℕ) → l < weight ns → digits (ms ++ ns) (h * weight ns + l) ≡ digits ms h ++ digits ns l
digits_split ms ns h l b = digits-below ms ns h l b ∙ ap (λ x. digits ms h ++ x) (digits_above ns h l (omega arith))

-- the number of two runs of digits
number-onward : (acc : ℕ) (ms us ns vs : List ℕ) → Fit ms us → number_from acc (ms ++ ns) (us ++ vs) ≡ number_from (number_from acc ms us) ns vs
unfolding number_from
number-onward acc [] [] ns vs f = refl
number-onward acc (m ∷ ms) (u ∷ us) ns vs f = number-onward (acc * m + u) ms us ns vs f.1
number-onward acc [] (u ∷ us) ns vs f = elim f [ ]
number-onward acc (m ∷ ms) [] ns vs f = elim f [ ]

pub number_split : (ms us ns vs : List ℕ) → Fit ms us → Fit ns vs → number (ms ++ ns) (us ++ vs) ≡ number ms us * weight ns + number ns vs
unfolding number
number_split ms us ns vs f g = number-onward 0 ms us ns vs f ∙ number-from ns vs (number_from 0 ms us) g
