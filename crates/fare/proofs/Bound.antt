-- Nothing overflows on the way: a segment charges its rate at most once for each number up to the ride's length, which is at most `most_charge`, and a price
-- leaves room for the charges of all segments of a plan.
use mathlib.Core.Bool.{Bool, true, false}
use mathlib.Core.List.Memᴰ
use mathlib.Core.List.{List, [], ◌∷◌}
use mathlib.Core.Path.{◌≡◌, refl}
use Prim.Native.Nat.{ℕ, suc, ◌+◌, ◌*◌, ◌≤◌}
use native.Mathlib.Nat.{mul-le-mul}
use native.Mathlib.Omega.{arith}
use lib.ListN.{length}
use Rattle.limits.specs.Ceilings.{segments}
use Rattle.decimal.specs.declared.Amount.{Amount}
use Rattle.fare.specs.declared.Segment.{Segment}
use Rattle.fare.specs.declared.Sum.{Sum}
use Rattle.fare.specs.Charges.{minutes_of, kilometres_of, moments}
use Rattle.fare.specs.inner.Folds.{with_amount, of_price, with_charge, with_charges}
use Rattle.fare.specs.Bounds.{most_money, most_minutes, most_kilometres, most_charge}
use Rattle.fare.specs.inner.Room.{most_ride, Room, Payable, Modest}
use Rattle.fare.proofs.Moments.{moments-most}

-- the longest rides that are asked for
pub minutes-short : (seconds : ℕ) → seconds ≤ 2_678_400 → (minutes_of seconds).count ≤ most_minutes
minutes-short seconds h = omega arith

pub kilometres-short : (metres : ℕ) → metres ≤ 1_000_000 → (kilometres_of metres).count ≤ most_kilometres
kilometres-short metres h = omega arith

pub charge-most : (s : Segment) (ride n : ℕ) → s.rate.size ≤ most_money → n ≡ length (moments s ride) → s.rate.size * n ≤ most_charge ride
charge-most s ride n h e =
    let k : n ≤ ride + 1 = omega (arith, moments-most s ride) in mul-le-mul h k

-- room for fewer; and one less is left after a charge
pub room_less : {n : ℕ} {sum : Sum} (k : ℕ) → k ≤ n → Room n sum → Room k sum
room_less k h r = record { added = omega arith; taken = omega arith }

room-amount : (n : ℕ) (sum : Sum) (amount : Amount) → amount.size ≤ most_charge most_ride → Room (suc n) sum → Room n (with_amount sum amount)
room-amount n sum amount h r = go amount.negative
  where
    go : (negative : Bool) → Room n (with_amount sum (record { negative = negative; size = amount.size }))
    go true = record { added = omega arith; taken = omega arith }
    go false = record { added = omega arith; taken = omega arith }

pub room_next : {n : ℕ} {sum : Sum} (s : Segment) (ride : ℕ) → s.rate.size ≤ most_money → ride ≤ most_ride → Room (suc n) sum → Room n (with_charge sum s ride)
room_next {n} {sum} s ride h l r =
    room-amount n sum _ (omega (arith, charge-most s ride _ h refl)) r

pub payable : {n : ℕ} {sum : Sum} (s : Segment) (ride : ℕ) → s.rate.size ≤ most_money → ride ≤ most_ride → Room (suc n) sum → Payable sum s ride
payable s ride h l r = record { room = room_less 1 (omega arith) r; modest = h; short = l }

-- a price leaves room for all segments of a plan
pub room-price : (price : Amount) → price.size ≤ most_money → Room (2 * segments) (of_price price)
room-price price h = go price.negative
  where
    go : (negative : Bool) → Room (2 * segments) (with_amount (record { added = 0; taken = 0 }) (record { negative = negative; size = price.size }))
    go true = record { added = omega arith; taken = omega arith }
    go false = record { added = omega arith; taken = omega arith }

pub room-charges : (n : ℕ) (l : List Segment) (sum : Sum) (ride : ℕ) → Modest l → ride ≤ most_ride → Room (n + length l) sum → Room n (with_charges sum l ride)
room-charges n [] sum ride m h r = room_less n (omega arith) r
room-charges n (s ∷ l) sum ride m h r =
    room-charges n l (with_charge sum s ride) ride (λ t i. m t (Memᴰ.tail i)) h
    (room_next s ride (m s (Memᴰ.head refl)) h (room_less (suc (n + length l)) (omega arith) r))
