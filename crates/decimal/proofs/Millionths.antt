-- Millionths: rounding keeps the order of numbers, so their side of zero, and their range. It moves a number by half a millionth at most, and both sides
-- of zero alike. Nothing else opens the definition.
use mathlib.Core.Bool.{Bool, true, false}
use mathlib.Core.Path.{◌≡◌, sym, ap, ◌∙◌}
use Prim.Native.Nat.{ℕ, ◌+◌, ◌*◌, ◌/◌, ◌≤◌, ◌<◌}
use native.Mathlib.Omega.{arith}
use lib.IntN.{ℤ, pos, neg_ℤ, nat_abs, ◌-ℤ◌, ◌*ℤ◌}
use lib.Signed.{le_z}
use borrow.Author.Tests.{le-leb, leb-true}
use Rattle.signed.specs.Signed.{signed}
use Rattle.signed.proofs.Gap.{gap_pos, gap_neg, gap_back, gap_same, gap_mul, gap_minus, gap_size, gap_le, signed-size, signed_negated, signed_le, signed_across}
use Rattle.signed.proofs.Parts.{parts, up_size, down_size}
use Rattle.decimal.specs.declared.Decimal.{Decimal}
use Rattle.decimal.specs.Exact.{unit, size, exact, in_range, millionth, nearest, millionths}
use Rattle.decimal.specs.Rounding.{opposite, Rounding}
use Rattle.decimal.proofs.Tests.{within-is}

-- what they are on whole and part
pub millionths_split : (d : Decimal) → signed d.negative (d.whole * 1_000_000 + (d.part + 500_000_000_000) / millionth) ≡ millionths d
unfolding millionths
millionths_split d =
    let q : nearest (size d) ≡ d.whole * 1_000_000 + (d.part + 500_000_000_000) / millionth = omega arith in
    rw q

-- a number within k of 0 is within k when it is rounded: k is a whole number of millionths
pub millionths-within : (k : ℕ) (d : Decimal) → in_range k d ≡ true → nat_abs (millionths d) ≤ k * 1_000_000
unfolding millionths
millionths-within k d e =
    let h : size d ≤ k * unit = leb-true (size d) (k * unit) (within-is k d ∙ e) in
    rw (signed-size d.negative (nearest (size d))) (omega arith)

ordered : (s t : Bool) (m n : ℕ) → le_z (signed s m) (signed t n) ≡ true → le_z (signed s (nearest m)) (signed t (nearest n)) ≡ true
ordered true true m n e =
    let h : n ≤ m = leb-true n m (sym (signed_le true m n) ∙ e) in
    signed_le true (nearest m) (nearest n) ∙ le-leb (nearest n) (nearest m) (omega arith)
ordered true false m n e = signed_across (nearest m) (nearest n)
ordered false true m n e =
    let h : m + n ≤ 0 + 0 = leb-true (m + n) (0 + 0) (sym (gap_le (gap_pos m) (gap_neg n)) ∙ e) in
    gap_le (gap_pos (nearest m)) (gap_neg (nearest n)) ∙ le-leb (nearest m + nearest n) (0 + 0) (omega arith)
ordered false false m n e = let h : m ≤ n = leb-true m n e in le-leb (nearest m) (nearest n) (omega arith)

-- of two numbers the greater stays the greater, or they become one
pub millionths-ordered : (d e : Decimal) → le_z (exact d) (exact e) ≡ true → le_z (millionths d) (millionths e) ≡ true
unfolding exact millionths
millionths-ordered d e h = ordered d.negative e.negative (size d) (size e) h

-- so none crosses zero
nought : Decimal
nought = record { negative = false; whole = 0; part = 0 }

pub millionths-natural : (d : Decimal) → le_z (pos 0) (exact d) ≡ true → le_z (pos 0) (millionths d) ≡ true
unfolding exact millionths nought
millionths-natural d h = millionths-ordered nought d h

pub millionths-below : (d : Decimal) → le_z (exact d) (pos 0) ≡ true → le_z (millionths d) (pos 0) ≡ true
unfolding exact millionths nought
millionths-below d h = millionths-ordered d nought h

-- what has no more than six decimals stays as it is
millionths-six : (d : Decimal) (m : ℕ) → size d ≡ m * millionth → millionths d ≡ signed d.negative m
unfolding millionths
millionths-six d m e = let q : nearest (size d) ≡ m = omega arith in ap (signed d.negative) q

-- what lies halfway between two goes to the one farther from zero
millionths-halfway : (d : Decimal) (m : ℕ) → size d ≡ m * millionth + millionth / 2 → millionths d ≡ signed d.negative (m + 1)
unfolding millionths
millionths-halfway d m e = let q : nearest (size d) ≡ m + 1 = omega arith in ap (signed d.negative) q

-- the other sign rounds to the other sign, so neither side of zero is favoured
millionths-odd : (d : Decimal) → millionths (opposite d) ≡ neg_ℤ (millionths d)
unfolding millionths
millionths-odd d = sym (signed_negated d.negative (nearest (size d)))

-- a number and its millionths are half a millionth apart at most
apart : (s : Bool) (n : ℕ) → nat_abs (signed s (nearest n) *ℤ pos millionth -ℤ signed s n) ≤ millionth / 2
apart true n = gap_size (gap_minus (gap_mul (gap_neg (nearest n)) (gap_pos millionth)) (gap_neg n)) (millionth / 2) (omega arith) (omega arith)
apart false n = gap_size (gap_minus (gap_mul (gap_pos (nearest n)) (gap_pos millionth)) (gap_pos n)) (millionth / 2) (omega arith) (omega arith)

millionths-near : (d : Decimal) → nat_abs (millionths d *ℤ pos millionth -ℤ exact d) ≤ millionth / 2
unfolding exact millionths
millionths-near d = apart d.negative (size d)

-- so what is less than half a millionth away from a number is its millionths
nearer : (s : Bool) (n : ℕ) (z : ℤ) → nat_abs (z *ℤ pos millionth -ℤ signed s n) < millionth / 2 → z ≡ signed s (nearest n)
nearer true n z h =
    let w = z *ℤ pos millionth -ℤ signed true n in
    gap_same (parts z) (gap_neg (nearest n))
    (omega (arith, up_size w, down_size w, gap_back (parts w) (gap_minus (gap_mul (parts z) (gap_pos millionth)) (gap_neg n))))
nearer false n z h =
    let w = z *ℤ pos millionth -ℤ signed false n in
    gap_same (parts z) (gap_pos (nearest n))
    (omega (arith, up_size w, down_size w, gap_back (parts w) (gap_minus (gap_mul (parts z) (gap_pos millionth)) (gap_pos n))))

millionths-only : (d : Decimal) (z : ℤ) → nat_abs (z *ℤ pos millionth -ℤ exact d) < millionth / 2 → z ≡ millionths d
unfolding exact millionths
millionths-only d z h = nearer d.negative (size d) z h

pub rounding : Rounding
rounding = record { near = millionths-near; only = millionths-only; halfway = millionths-halfway; odd = millionths-odd; six = millionths-six }
