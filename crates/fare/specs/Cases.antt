-- Charges, sums and marks at their limits, computed. Document 01's own readings (f) to (i) stand in the table of all of them.
use Rattle.std.specs.Prelude.{Bool, true, false, List, [], ◌∷◌, None, Some, ◌≡◌, refl, ℕ, ℤ, pos, neg_ℤ}
use Rattle.std.specs.Int.Signed.{le_z}
use Rattle.notation.specs.Case.{Case, Answers}
use Rattle.decimal.specs.Exact.{ten_thousandths}
use Rattle.fare.specs.declared.Segment.{Segment}
use Rattle.fare.specs.Charges.{minutes_of, kilometres_of, charged, moments_from, moments, charge, charges, sum, amount, all_ended, greatest_end, past}
use Rattle.fare.specs.Bounds.{most_sum}

-- opens every definition of this layer
unfoldable pub charging : Unit {0}
unfolding ten_thousandths charged moments_from moments charge charges sum amount all_ended greatest_end past
charging = tt

-- segments by start, rate in ten-thousandths and interval: one without an end, and one with an end; and a discount, due once
abbrev endless : ℕ → ℕ → ℕ → Segment
endless start rate interval =
    record { start = start; rate = record { negative = false; size = rate }; interval = interval; end = None }

abbrev ending : ℕ → ℕ → ℕ → ℕ → Segment
ending start rate interval end =
    record { start = start; rate = record { negative = false; size = rate }; interval = interval; end = Some end }

abbrev discount : ℕ → ℕ → Segment
discount start rate =
    record { start = start; rate = record { negative = true; size = rate }; interval = 0; end = None }

-- the moments at which a segment charges a ride
abbrev charged-at : List (Case (Segment × ℕ) (List ℕ))
charged-at =
    ("no interval, short of the start", (ending 4 10000 0 9, 3), []) ∷
    ("at the start", (ending 4 10000 0 9, 4), 4 ∷ []) ∷
    ("at the end", (ending 4 10000 0 9, 9), 4 ∷ []) ∷
    ("far past it", (ending 4 10000 0 9, 500), 4 ∷ []) ∷
    ("an interval, the last moment before the end", (ending 0 2500 15 45, 44), 0 ∷ 15 ∷ 30 ∷ []) ∷
    ("none at the end", (ending 0 2500 15 45, 45), 0 ∷ 15 ∷ 30 ∷ []) ∷
    ("none past it", (ending 0 2500 15 45, 60), 0 ∷ 15 ∷ 30 ∷ []) ∷
    []

charged-answered : Answers (λ c. moments c.0 c.1) charged-at
unfolding charging
charged-answered = refl

-- what a segment that ends before it starts charges a ride
abbrev early : Segment
early = ending 20 10000 5 3

abbrev uncharged : List (Case ℕ ℤ)
uncharged =
    ("short of the end", 2, pos 0) ∷
    ("at the end", 3, pos 0) ∷
    ("at the start", 20, pos 0) ∷
    ("far past it", 500, pos 0) ∷
    []

uncharged-answered : Answers (charge early) uncharged
unfolding charging
uncharged-answered = refl

-- whether a rate is zero or more
abbrev rates : List (Case Segment Bool)
rates =
    ("0", endless 0 0 0, true) ∷
    ("−0", discount 0 0, true) ∷
    ("0.0001", endless 0 1 0, true) ∷
    ("−0.0001", discount 0 1, false) ∷
    []

rates-answered : Answers (λ (s : Segment). le_z (pos 0) (ten_thousandths s.rate)) rates
unfolding charging
rates-answered = refl

-- the sum of a plan without a price and with a discount of 0.5 from the tenth minute on, by seconds
abbrev sums : List (Case ℕ ℤ)
sums =
    ("short of the discount", 599, pos 0) ∷
    ("below zero", 600, neg_ℤ (pos 5_000)) ∷
    []

sums-answered : Answers (λ seconds. sum (pos 0) (discount 10 5_000 ∷ []) [] (minutes_of seconds) (kilometres_of 0)) sums
unfolding charging
sums-answered = refl

-- the amount of a price and segments by the minute, by seconds; later charges are added to the sum, not to zero
abbrev discounts : List Segment
discounts = discount 10 5_000 ∷ discount 20 8_000 ∷ endless 30 500 0 ∷ endless 40 2_500 0 ∷ []

abbrev amounts : List (Case (ℕ × List Segment × ℕ) ℤ)
amounts =
    ("a sum far below zero asks nothing", (0, discount 10 5_000 ∷ [], 6000), pos 0) ∷
    ("short of a discount", (12_000, discounts, 599), pos 12_000) ∷
    ("a part of the price is left", (12_000, discounts, 600), pos 7_000) ∷
    ("none of it is", (12_000, discounts, 1200), pos 0) ∷
    ("a charge that does not make up for the discounts", (12_000, discounts, 1800), pos 0) ∷
    ("one that does", (12_000, discounts, 2400), pos 2_000) ∷
    []

amounts-answered : Answers (λ c. amount (pos c.0) c.1 [] (minutes_of c.2) (kilometres_of 0)) amounts
unfolding charging
amounts-answered = refl

-- that of a segment by the kilometre, by metres, whatever the minutes
abbrev distances : List (Case ℕ ℤ)
distances =
    ("short of a kilometre", 999, pos 0) ∷
    ("a kilometre", 1000, pos 10_000) ∷
    ("short of two", 1999, pos 10_000) ∷
    ("two", 2000, pos 20_000) ∷
    []

distances-answered : Answers (λ metres. amount (pos 0) [] (endless 1 10_000 1 ∷ []) (minutes_of 6000) (kilometres_of metres)) distances
unfolding charging
distances-answered = refl

-- whether a ride is past the ends of these segments
abbrev one_open : List Segment
one_open = ending 0 1 1 5 ∷ endless 0 1 1 ∷ ending 0 1 1 7 ∷ []

abbrev two_ends : List Segment
two_ends = ending 0 1 1 7 ∷ ending 0 1 1 5 ∷ []

abbrev marks : List (Case (List Segment × ℕ) Bool)
marks =
    ("an end before the start, short of it", (early ∷ [], 2), false) ∷
    ("at it", (early ∷ [], 3), true) ∷
    ("at the start", (early ∷ [], 20), true) ∷
    ("one segment without an end, short of the others", (one_open, 4), false) ∷
    ("at the others", (one_open, 7), false) ∷
    ("far past them", (one_open, 500), false) ∷
    ("two ends, at the lesser", (two_ends, 5), false) ∷
    ("between them", (two_ends, 6), false) ∷
    ("at the greater", (two_ends, 7), true) ∷
    ("no segment", ([], 500), false) ∷
    []

marks-answered : Answers (λ c. past c.0 c.1) marks
unfolding charging
marks-answered = refl

-- the largest sum that the ceilings allow, in ten-thousandths
largest : most_sum ≡ 7_302_730_000_000_000
largest = refl
