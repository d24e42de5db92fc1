-- How charges are computed: moments counted by a division, and an amount as two sums that only grow. The laws in proofs/ say that these are the charges of
-- `Charges`.
use Rattle.std.specs.Prelude.{Bool, false, ℕ, ◌+◌, ◌-◌, ◌*◌, ◌/◌, min, eqb, leb, ℤ, length, take}
use Rattle.std.specs.Option.{option_map_or}
use mathlib.Core.List.{List, foldl}
use Rattle.notation.specs.Choice.{◌⇒◌else◌}
use Rattle.signed.specs.inner.Difference.{difference}
use Rattle.decimal.specs.declared.Amount.{Amount}
use Rattle.fare.specs.declared.Segment.{Segment}
use Rattle.fare.specs.declared.Segments.{Segments}
use Rattle.fare.specs.declared.Sum.{Sum}
use Rattle.fare.specs.declared.Charged.{Charged}
use Rattle.fare.specs.Charges.{moments, past}

-- every moment below it is charged, and no other
abbrev pub bound_of : Segment → ℕ → ℕ
bound_of s ride = option_map_or (λ end. min end (ride + 1)) s.end (ride + 1)

-- past the end, where there is one
abbrev pub has_ended : ℕ → Segment → Bool
has_ended ride s = option_map_or (λ end. leb end ride) s.end false

-- how many of start, start + interval, .. are below a bound
unfoldable pub count_below : ℕ → ℕ → ℕ → ℕ
count_below bound start interval =
    leb bound start ⇒ 0 else
    eqb interval 0 ⇒ 1 else
    (bound - 1 - start) / interval + 1

-- what a sum comes to
abbrev pub worth : Sum → ℤ
worth sum = difference sum.added sum.taken

-- with one amount more, of either sign
abbrev pub with_amount : Sum → Amount → Sum
with_amount sum amount =
    amount.negative ⇒ record { added = sum.added; taken = sum.taken + amount.size } else
    record { added = sum.added + amount.size; taken = sum.taken }

abbrev pub of_price : Amount → Sum
of_price price = with_amount (record { added = 0; taken = 0 }) price

abbrev pub with_charge : Sum → Segment → ℕ → Sum
with_charge sum s ride = with_amount sum (record { negative = s.rate.negative; size = s.rate.size * length (moments s ride) })

abbrev pub with_charges : Sum → List Segment → ℕ → Sum
with_charges sum l ride = foldl (λ so_far s. with_charge so_far s ride) sum l

-- the segments that are there, and a sum with all their charges and the mark
abbrev pub listed : Segments → List Segment
listed l = take l.count l.list

abbrev pub with_all : Sum → List Segment → ℕ → Charged
with_all sum l ride = record { sum = with_charges sum l ride; past = past l ride }
