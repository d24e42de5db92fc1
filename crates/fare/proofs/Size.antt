-- How large a sum and an amount can be: a segment charges its rate at most once for each number from 0 to the ride's length, a sum is no larger than the sizes
-- of what is added, and an amount no larger than its sum. So the ceilings on money, segments, minutes and kilometres bound all of them, far below 2^63.
use mathlib.Core.List.Memᴰ
use mathlib.Core.List.{List, [], ◌∷◌}
use mathlib.Core.Path.{◌≡◌, refl, sym, ap, ◌∙◌}
use Prim.Native.Nat.{ℕ, ◌+◌, ◌*◌, ◌^◌, ◌≤◌, ◌<◌}
use native.Mathlib.Nat.{mul-le-mul}
use native.Mathlib.Omega.{arith}
use lib.ListN.{length}
use lib.IntN.{ℤ, pos, negsuc, nat_abs, ◌+ℤ◌}
use Rattle.signed.proofs.Gap.{gap_add, gap_size, signed-size}
use Rattle.signed.proofs.Parts.{parts, up_size, down_size}
use Rattle.decimal.specs.declared.Amount.{Amount}
use Rattle.decimal.specs.Exact.{ten_thousandths}
use Rattle.fare.specs.declared.Minutes.{Minutes}
use Rattle.fare.specs.declared.Kilometres.{Kilometres}
use Rattle.fare.specs.declared.Segment.{Segment}
use Rattle.fare.specs.Charges.{moments, charge, charges, sum, clamped, amount}
use Rattle.fare.specs.Bounds.{most_money, most_charge, most_sum}
use Rattle.fare.specs.inner.Room.{Modest, Quotable}
use Rattle.fare.proofs.Worth.{signed-times}
use Rattle.fare.proofs.Bound.{charge-most}

-- two numbers together, an amount of money, and a number that is made zero where it is negative
size_add : (z w : ℤ) → nat_abs (z +ℤ w) ≤ nat_abs z + nat_abs w
size_add z w =
    gap_size (gap_add (parts z) (parts w)) (nat_abs z + nat_abs w) (omega (arith, up_size z, up_size w)) (omega (arith, down_size z, down_size w))

size_money : (a : Amount) → nat_abs (ten_thousandths a) ≡ a.size
unfolding ten_thousandths
size_money a = signed-size a.negative a.size

size-clamped : (z : ℤ) → nat_abs (clamped z) ≤ nat_abs z
size-clamped (pos n) = omega arith
size-clamped (negsuc n) = omega arith

-- the charges of a segment, and of all of one sort
size-charge : (s : Segment) (ride : ℕ) → s.rate.size ≤ most_money → nat_abs (charge s ride) ≤ most_charge ride
unfolding charge ten_thousandths
size-charge s ride h =
    let n = length (moments s ride) in
    let e : nat_abs (charge s ride) ≡ s.rate.size * n = ap nat_abs (sym (signed-times s.rate.negative s.rate.size n)) ∙ signed-size s.rate.negative (s.rate.size * n) in
    omega (arith, charge-most s ride n h refl)

size-charges : (l : List Segment) (ride : ℕ) → Modest l → nat_abs (charges l ride) ≤ length l * most_charge ride
unfolding charges
size-charges [] ride m = omega arith
size-charges (s ∷ l) ride m =
    omega (
      arith,
      size_add (charge s ride) (charges l ride),
      size-charge s ride (m s (Memᴰ.head refl)),
      size-charges l ride (λ t i. m t (Memᴰ.tail i)),
    )

-- of a plan and a ride within the ceilings
module _ (price : Amount) (per_minute per_kilometre : List Segment) (minutes : Minutes) (kilometres : Kilometres)
    (q : Quotable price per_minute per_kilometre minutes kilometres) where
  pub sum-size : nat_abs (sum (ten_thousandths price) per_minute per_kilometre minutes kilometres) ≤ most_sum
  unfolding sum
  sum-size =
      let timed = charges per_minute minutes.count in
      let far = charges per_kilometre kilometres.count in
      let a = mul-le-mul q.few-minutes (within q.short-minutes) in
      let b = mul-le-mul q.few-kilometres (within q.short-kilometres) in
      omega (
        arith,
        size_add (ten_thousandths price +ℤ timed) far,
        size_add (ten_thousandths price) timed,
        size_money price,
        q.cheap,
        size-charges per_minute minutes.count q.modest-minutes,
        size-charges per_kilometre kilometres.count q.modest-kilometres,
        a,
        b,
      )
    where
      within : {ride most : ℕ} → ride ≤ most → most_charge ride ≤ most_charge most
      within h = omega arith

  pub amount-size : nat_abs (amount (ten_thousandths price) per_minute per_kilometre minutes kilometres) ≤ most_sum
  unfolding amount
  amount-size = omega (arith, size-clamped (sum (ten_thousandths price) per_minute per_kilometre minutes kilometres), sum-size)

-- the bound itself has its place in 63 bits
pub sum_room : most_sum < 2 ^ 63
sum_room = omega arith
