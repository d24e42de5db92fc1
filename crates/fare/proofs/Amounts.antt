-- What is asked of a rider is never negative, and is the sum where that is not: `clamped` leaves every other number as it is.
use mathlib.Core.Bool.{true, true≢false}
use mathlib.Core.List.{List}
use mathlib.Core.Path.{◌≡◌, refl, sym}
use native.Mathlib.Omega.{arith}
use lib.IntN.{ℤ, pos, negsuc}
use lib.Signed.{le_z}
use borrow.Author.Tests.{le-leb}
use Rattle.fare.specs.declared.Minutes.{Minutes}
use Rattle.fare.specs.declared.Kilometres.{Kilometres}
use Rattle.fare.specs.declared.Segment.{Segment}
use Rattle.fare.specs.Charges.{sum, clamped, amount}

natural : (z : ℤ) → le_z (pos 0) (clamped z) ≡ true
natural (pos n) = le-leb 0 n (omega arith)
natural (negsuc n) = refl

same : (z : ℤ) → le_z (pos 0) z ≡ true → clamped z ≡ z
same (pos n) h = refl
same (negsuc n) h = absurd (true≢false (sym h))

module _ (price : ℤ) (per_minute per_kilometre : List Segment) (minutes : Minutes) (kilometres : Kilometres) where
  pub amount-natural : le_z (pos 0) (amount price per_minute per_kilometre minutes kilometres) ≡ true
  unfolding amount
  amount-natural = natural (sum price per_minute per_kilometre minutes kilometres)

  pub amount-sum : le_z (pos 0) (sum price per_minute per_kilometre minutes kilometres) ≡ true
      → amount price per_minute per_kilometre minutes kilometres ≡ sum price per_minute per_kilometre minutes kilometres
  unfolding amount
  amount-sum h = same (sum price per_minute per_kilometre minutes kilometres) h
