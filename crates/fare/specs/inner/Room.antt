-- What the code asks of a plan and a ride so that nothing overflows: a sound plan's rates and a quote's longest ride keep it.
use mathlib.Core.List.{List, Memᴰ}
use Rattle.std.specs.Prelude.{ℕ, ◌+◌, ◌*◌, ◌^◌, ◌≤◌, ◌<◌, length}
use Rattle.limits.specs.Ceilings.{segments}
use Rattle.decimal.specs.declared.Amount.{Amount}
use Rattle.fare.specs.declared.Minutes.{Minutes}
use Rattle.fare.specs.declared.Kilometres.{Kilometres}
use Rattle.fare.specs.declared.Segment.{Segment}
use Rattle.fare.specs.declared.Sum.{Sum}
use Rattle.fare.specs.Bounds.{most_charge, most_kilometres, most_minutes, most_money}

-- in either measure
abbrev pub most_ride : ℕ
most_ride = most_minutes

-- with `more` segments more neither side of the sum leaves 63 bits
pub record Room (more : ℕ) (sum : Sum) : Type 0 where
  pub added : sum.added + more * most_charge most_ride < 2 ^ 63
  pub taken : sum.taken + more * most_charge most_ride < 2 ^ 63

-- a segment's charge can be added
pub record Payable (sum : Sum) (s : Segment) (ride : ℕ) : Type 0 where
  pub room : Room 1 sum
  pub modest : s.rate.size ≤ most_money
  pub short : ride ≤ most_ride

abbrev pub Modest : List Segment → Type 0
Modest l = (s : Segment) → Memᴰ s l → s.rate.size ≤ most_money

-- the charges of all segments of one sort can be added
pub record Chargeable (sum : Sum) (l : List Segment) (ride : ℕ) : Type 0 where
  pub room : Room (length l) sum
  pub modest : Modest l
  pub short : ride ≤ most_ride

-- a plan and a ride for which there is a quote
pub record Quotable (price : Amount) (per_minute per_kilometre : List Segment) (minutes : Minutes) (kilometres : Kilometres) : Type 0 where
  pub cheap : price.size ≤ most_money
  pub few-minutes : length per_minute ≤ segments
  pub few-kilometres : length per_kilometre ≤ segments
  pub modest-minutes : Modest per_minute
  pub modest-kilometres : Modest per_kilometre
  pub short-minutes : minutes.count ≤ most_minutes
  pub short-kilometres : kilometres.count ≤ most_kilometres
