-- What rounding to millionths promises. The first three leave one answer for every number.
use Rattle.std.specs.Prelude.{not, ◌≡◌, ℕ, ◌+◌, ◌*◌, ◌/◌, ◌≤◌, ◌<◌, ℤ, pos, neg_ℤ, nat_abs, ◌-ℤ◌, ◌*ℤ◌}
use Rattle.signed.specs.Signed.{signed}
use Rattle.decimal.specs.declared.Decimal.{Decimal}
use Rattle.decimal.specs.Exact.{size, exact, millionth, millionths}

abbrev pub opposite : Decimal → Decimal
opposite d = record { negative = not d.negative; whole = d.whole; part = d.part }

pub record Rounding : Type 0 where
  -- a number and its millionths are half a millionth apart at most
  pub near : (d : Decimal) → nat_abs (millionths d *ℤ pos millionth -ℤ exact d) ≤ millionth / 2
  -- what is less than half a millionth away from a number is its millionths
  pub only : (d : Decimal) (z : ℤ) → nat_abs (z *ℤ pos millionth -ℤ exact d) < millionth / 2 → z ≡ millionths d
  -- what lies halfway between two goes to the one farther from zero
  pub halfway : (d : Decimal) (m : ℕ) → size d ≡ m * millionth + millionth / 2 → millionths d ≡ signed d.negative (m + 1)
  -- the other sign rounds to the other sign, so neither side of zero is favoured
  pub odd : (d : Decimal) → millionths (opposite d) ≡ neg_ℤ (millionths d)
  -- what has no more than six decimals stays as it is
  pub six : (d : Decimal) (m : ℕ) → size d ≡ m * millionth → millionths d ≡ signed d.negative m
