-- What a ride costs: document 01, "Charges", with document 02's W2. Lengths are whole minutes or kilometres; amounts are ten-thousandths, of any size.
use Rattle.std.specs.Prelude.{Bool, true, false, List, [], ◌∷◌, is_some, unwrap_or, ℕ, zero, suc, ◌+◌, ◌/◌, max, eqb, leb, ltb, length, ℤ, pos, negsuc, ◌+ℤ◌, ◌*ℤ◌}
use Rattle.std.specs.Option.{option_map_or}
use Rattle.notation.specs.Choice.{◌⇒◌else◌, ◌and◌}
use Rattle.decimal.specs.Exact.{ten_thousandths}
use Rattle.fare.specs.declared.Minutes.{Minutes}
use Rattle.fare.specs.declared.Kilometres.{Kilometres}
use Rattle.fare.specs.declared.Segment.{Segment}

-- a ride's length, the rest dropped
abbrev pub minutes_of : ℕ → Minutes
minutes_of seconds = record { count = seconds / 60 }

abbrev pub kilometres_of : ℕ → Kilometres
kilometres_of metres = record { count = metres / 1000 }

-- the rate is charged at the moment t of a ride of this length: at most the length, and less than the end where there is one
unfoldable pub charged : Segment → ℕ → ℕ → Bool
charged s ride t = leb t ride and option_map_or (λ end. ltb t end) s.end true

-- the moments start, start + interval, .. that are charged, at most `most` of them
unfoldable pub moments_from : Segment → ℕ → ℕ → ℕ → List ℕ
moments_from s ride zero t = []
moments_from s ride (suc most) t =
    elim (charged s ride t) [ true ↦ t ∷ moments_from s ride most (t + s.interval) | false ↦ [] ]

-- all of them: the start alone where the interval is 0; otherwise no more than there are numbers up to the ride's length
unfoldable pub moments : Segment → ℕ → List ℕ
moments s ride = moments_from s ride (eqb s.interval 0 ⇒ 1 else ride + 1) s.start

unfoldable pub charge : Segment → ℕ → ℤ
charge s ride = ten_thousandths s.rate *ℤ pos (length (moments s ride))

unfoldable pub charges : List Segment → ℕ → ℤ
charges [] ride = pos 0
charges (s ∷ l) ride = charge s ride +ℤ charges l ride

-- price and all charges of both arrays; discounts may make it negative
unfoldable pub sum : ℤ → List Segment → List Segment → Minutes → Kilometres → ℤ
sum price per_minute per_kilometre minutes kilometres =
    price +ℤ charges per_minute minutes.count +ℤ charges per_kilometre kilometres.count

-- a number, and zero for a negative one
abbrev pub clamped : ℤ → ℤ
clamped (pos n) = pos n
clamped (negsuc n) = pos 0

-- what is asked of the rider: the sum, and nothing where that is negative
unfoldable pub amount : ℤ → List Segment → List Segment → Minutes → Kilometres → ℤ
amount price per_minute per_kilometre minutes kilometres = clamped (sum price per_minute per_kilometre minutes kilometres)

-- at least one segment, all of them with an end, and the ride at or past the greatest
unfoldable pub all_ended : List Segment → Bool
all_ended [] = true
all_ended (s ∷ l) = is_some s.end and all_ended l

-- of those that have one
unfoldable pub greatest_end : List Segment → ℕ
greatest_end [] = 0
greatest_end (s ∷ l) = max (unwrap_or s.end 0) (greatest_end l)

unfoldable pub past : List Segment → ℕ → Bool
past [] ride = false
past (s ∷ l) ride = all_ended (s ∷ l) and leb (greatest_end (s ∷ l)) ride
