-- What document 02's request W6 lets a reader count on: the ceilings on money, segments, minutes and kilometres bound the sum of a plan's price and charges on
-- either side of zero, and with it the amount of every quote; the bound has its place in signed 64 bits, so no quote is refused for its size.
-- `proofs/Size` shows it.
use Rattle.std.specs.Prelude.{true, ◌≡◌, ℕ, ◌^◌, ◌≤◌, ◌<◌, ℤ, nat_abs, Some}
use mathlib.Core.List.{List, [], ◌∷◌, Memᴰ}
use Rattle.decimal.specs.Exact.{ten_thousandths}
use Rattle.schema.specs.Shape.{Table, file_shape}
use Rattle.schema.specs.Pick.{Picked}
use Rattle.fare.specs.Charges.{minutes_of, kilometres_of, sum}
use Rattle.fare.specs.Bounds.{most_sum}
use Rattle.clean.specs.Clean.{records_in, clean_of}
use Rattle.quote.specs.Plan.{price_at, per_minute, per_kilometre, plan_of, trip_amount, past_minutes, past_kilometres}
use Rattle.quote.specs.Quote as quote
use Rattle.quote.specs.Quote.{short, quote_of}
use Rattle.fault.specs.Outcome.{unbroken}

-- the plan of an id in a clean file, of the file's bytes
pub record PlanIn (t : Table) (s id : List ℕ) (plan : Picked) : Type 0 where
  pub clean : clean_of t 5 s ≡ unbroken
  pub found : plan_of (records_in (file_shape t 5) s) id ≡ Some plan

-- a plan's price and charges for a ride, negative where discounts make it so
abbrev pub trip_sum : Picked → (seconds metres : ℕ) → ℤ
trip_sum plan seconds metres = sum (ten_thousandths (price_at plan)) (per_minute plan) (per_kilometre plan) (minutes_of seconds) (kilometres_of metres)

pub record Sized (t : Table) : Type 0 where
  -- the sum, for a ride within the limits
  pub sum : (s id : List ℕ) (plan : Picked) (seconds metres : ℕ) → PlanIn t s id plan → short seconds metres ≡ true → nat_abs (trip_sum plan seconds metres) ≤ most_sum
  -- the amount of every quote, whatever it answers
  pub amount : (s id : List ℕ) (seconds metres : ℕ) → nat_abs (quote_of t s id seconds metres).amount ≤ most_sum
  -- the bound has its place in signed 64 bits
  pub fits : most_sum < 2 ^ 63
  -- so a plan in a clean file has a price for every ride within the limits
  pub priced : (s id : List ℕ) (plan : Picked) (seconds metres : ℕ) → PlanIn t s id plan → short seconds metres ≡ true
      → quote_of t s id seconds metres ≡ quote.priced (trip_amount plan seconds metres) (past_minutes plan seconds) (past_kilometres plan metres)
  -- and these are all the numbers that a quote has
  pub numbers : (s id : List ℕ) (seconds metres : ℕ) → Memᴰ (quote_of t s id seconds metres).number (0 ∷ 4 ∷ 5 ∷ 6 ∷ [])
