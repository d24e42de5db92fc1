-- What the two sums come to: an amount goes in with its sign, and a charge is the segment's. The amount is their difference, and zero where that is negative.
use mathlib.Core.Bool.{Bool, true, false}
use mathlib.Core.Path.{◌≡◌, refl, ap, ◌∙◌}
use Prim.Native.Nat.{ℕ, zero, suc, ◌+◌, ◌-◌, ◌*◌}
use native.Mathlib.Omega.{arith}
use lib.IntN.{ℤ, pos, neg_ℤ, ◌+ℤ◌, ◌*ℤ◌}
use lib.ListN.{length}
use lib.Dec.{leb}
use borrow.Author.Tests.{leb-true, leb-false}
use Rattle.signed.specs.Signed.{signed}
use Rattle.signed.specs.inner.Difference.{difference}
use Rattle.signed.proofs.Gap.{gap, gap_pos, gap_neg, gap_add, gap_mul, gap_same, difference_up, difference_down}
use Rattle.decimal.specs.declared.Amount.{Amount}
use Rattle.decimal.specs.Exact.{ten_thousandths}
use Rattle.fare.specs.declared.Segment.{Segment}
use Rattle.fare.specs.declared.Sum.{Sum}
use Rattle.fare.specs.Charges.{moments, charge, clamped}
use Rattle.fare.specs.inner.Folds.{worth, with_amount, of_price, with_charge}

abbrev sums : ℕ → ℕ → Sum
sums added taken = record { added = added; taken = taken }

-- with one amount more
worth-amount : (sum : Sum) (amount : Amount) → worth (with_amount sum amount) ≡ worth sum +ℤ signed amount.negative amount.size
worth-amount sum amount = go amount.negative amount.size
  where
    go : (negative : Bool) (size : ℕ) → worth (with_amount sum (record { negative = negative; size = size })) ≡ worth sum +ℤ signed negative size
    go true size = gap_same (gap sum.added (sum.taken + size)) (gap_add (gap sum.added sum.taken) (gap_neg size)) (omega arith)
    go false size = gap_same (gap (sum.added + size) sum.taken) (gap_add (gap sum.added sum.taken) (gap_pos size)) (omega arith)

pub worth-price : (price : Amount) → worth (of_price price) ≡ ten_thousandths price
unfolding ten_thousandths
worth-price price = worth-amount (sums 0 0) price ∙ go price.negative price.size
  where
    go : (negative : Bool) (size : ℕ) → worth (sums 0 0) +ℤ signed negative size ≡ signed negative size
    go true size = gap_same (gap_add (gap 0 0) (gap_neg size)) (gap_neg size) (omega arith)
    go false size = gap_same (gap_add (gap 0 0) (gap_pos size)) (gap_pos size) (omega arith)

-- n times a size with its sign
pub signed-times : (negative : Bool) (size n : ℕ) → signed negative (size * n) ≡ signed negative size *ℤ pos n
signed-times true size n = gap_same (gap_neg (size * n)) (gap_mul (gap_neg size) (gap_pos n)) (omega arith)
signed-times false size n = gap_same (gap_pos (size * n)) (gap_mul (gap_pos size) (gap_pos n)) (omega arith)

pub worth-charge : (sum : Sum) (s : Segment) (ride : ℕ) → worth (with_charge sum s ride) ≡ worth sum +ℤ charge s ride
unfolding charge ten_thousandths
worth-charge sum s ride =
    worth-amount sum (record { negative = s.rate.negative; size = s.rate.size * length (moments s ride) })
    ∙ ap (λ (z : ℤ). worth sum +ℤ z) (signed-times s.rate.negative s.rate.size (length (moments s ride)))

-- a number at or below zero comes to zero
clamped-below : (n : ℕ) → clamped (neg_ℤ (pos n)) ≡ pos 0
clamped-below zero = refl
clamped-below (suc n) = refl

-- what the two sums come to for the rider is the difference of natural numbers, which stops at zero
module _ (a b : ℕ) where
  pub clamped-difference : clamped (difference a b) ≡ pos (a - b)
  clamped-difference = go (leb a b) refl
    where
      go : (t : Bool) → leb a b ≡ t → clamped (difference a b) ≡ pos (a - b)
      go true e =
          let h = leb-true a b e in let z : 0 ≡ a - b = omega arith in
          ap clamped (difference_down a b h) ∙ clamped-below (b - a) ∙ ap pos z
      go false e = let h = leb-false a b e in ap clamped (difference_up a b (omega arith))
