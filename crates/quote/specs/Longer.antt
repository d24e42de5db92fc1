-- What document 02's request W12 lets a reader count on: what a longer ride costs, told of the answers themselves. `proofs/Longer` shows it. Of a plan with
-- a negative rate nothing is said on a price that falls: docs/LONGER-RIDES.md has such plans, and `Cases` computes them.
use Rattle.std.specs.Prelude.{true, List, ◌≡◌, ℕ, ◌≤◌}
use Rattle.std.specs.Int.Signed.{le_z}
use Rattle.schema.specs.Shape.{Table}
use Rattle.schema.specs.Pick.{Picked}
use Rattle.fare.specs.Charges.{minutes_of, kilometres_of}
use Rattle.fare.specs.Longer.{NoNegativeRate, Settled}
use Rattle.quote.specs.Plan.{per_minute, per_kilometre}
use Rattle.quote.specs.Quote.{Answer, short, quote_of}
use Rattle.quote.specs.Size.{PlanIn}

-- all rates of a plan are zero or more
pub record NoNegativeRates (plan : Picked) : Type 0 where
  pub minutes : NoNegativeRate (per_minute plan)
  pub kilometres : NoNegativeRate (per_kilometre plan)

-- a ride, and its quote
pub record Ride : Type 0 where
  pub seconds : ℕ
  pub metres : ℕ

abbrev pub quote_for : Table → (s id : List ℕ) → Ride → Answer
quote_for t s id a = quote_of t s id a.seconds a.metres

-- a ride within the ceilings
abbrev pub Short : Ride → Type 0
Short a = short a.seconds a.metres ≡ true

-- from one ride to the other neither minutes nor kilometres fall; and neither seconds nor metres do
pub record NotShorter (a b : Ride) : Type 0 where
  pub minutes : (minutes_of a.seconds).count ≤ (minutes_of b.seconds).count
  pub kilometres : (kilometres_of a.metres).count ≤ (kilometres_of b.metres).count

pub record NoFewer (a b : Ride) : Type 0 where
  pub seconds : a.seconds ≤ b.seconds
  pub metres : a.metres ≤ b.metres

-- no charge of the plan is to come after this ride: of each sort there is no segment, or all have ended
pub record AllSettled (plan : Picked) (a : Ride) : Type 0 where
  pub minutes : Settled (per_minute plan) (minutes_of a.seconds).count
  pub kilometres : Settled (per_kilometre plan) (kilometres_of a.metres).count

-- both answers give an amount, and the second no smaller one
pub record InOrder (x y : Answer) : Type 0 where
  pub first : x.number ≡ 0
  pub second : y.number ≡ 0
  pub amounts : le_z x.amount y.amount ≡ true

pub record LongerRides (t : Table) : Type 0 where
  -- By one clean plan whose rates are all zero or more, of rides within the ceilings: where neither minutes nor kilometres fall, the amount does not.
  -- Shut out: a longer ride that costs less; one that is refused.
  pub never_less : (s id : List ℕ) (plan : Picked) (a b : Ride) → PlanIn t s id plan → NoNegativeRates plan → Short a → Short b → NotShorter a b
      → InOrder (quote_for t s id a) (quote_for t s id b)
  -- And so where neither seconds nor metres fall, which is how rides are measured.
  pub never_less_measured : (s id : List ℕ) (plan : Picked) (a b : Ride) → PlanIn t s id plan → NoNegativeRates plan → Short b → NoFewer a b
      → InOrder (quote_for t s id a) (quote_for t s id b)
  -- Whatever the rates: past both marks every ride within the ceilings that is shorter in neither is answered the same, in number, amount and marks.
  -- Shut out: a charge past the ends, and a mark that goes.
  pub past_both : (s id : List ℕ) (a b : Ride) → (quote_for t s id a).past_minutes ≡ true → (quote_for t s id a).past_kilometres ≡ true → Short b → NotShorter a b
      → quote_for t s id b ≡ quote_for t s id a
  -- And so where no charge is to come, also where there is no mark since a sort has no segment.
  pub settled : (s id : List ℕ) (plan : Picked) (a b : Ride) → PlanIn t s id plan → AllSettled plan a → Short a → Short b → NotShorter a b
      → quote_for t s id b ≡ quote_for t s id a
