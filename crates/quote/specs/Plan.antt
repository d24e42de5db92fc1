-- A plan out of a picked file of plans, and what it quotes: document 01, "Charges".
use Rattle.std.specs.Prelude.{Bool, false, List, [], ◌∷◌, map, ℕ, ◌+◌, ℤ, Option, Result, Some, None, Ok, Err}
use Rattle.decimal.specs.declared.Amount.{Amount}
use Rattle.decimal.specs.Decimals.{number_of, price_of}
use Rattle.decimal.specs.Exact.{money_of, ten_thousandths}
use Rattle.text.specs.Text.{same}
use Rattle.notation.specs.Choice.{◌⇒◌else◌}
use Rattle.schema.specs.Pick.{Picked}
use Rattle.document.specs.Document.{field, field_items, text, spelling, given}
use Rattle.document.specs.Values.{integer_in}
use Rattle.fare.specs.declared.Segment.{Segment}
use Rattle.fare.specs.Charges.{minutes_of, kilometres_of, amount, past}
use Rattle.decimal.specs.declared.Decimal.{Decimal}
use Rattle.decimal.specs.declared.PriceError.{PriceError}
use Rattle.decimal.specs.declared.PriceError.TheVariants.{Unformed, NoNumber}

-- zero, for what a sound plan always has: a definition for every tree needs it, and no quote is made of it
abbrev pub nothing : Amount
nothing = record { negative = false; size = 0 }

abbrev pub amount_in : Option Amount → Amount
amount_in (Some a) = a
amount_in None = nothing

abbrev pub number_amount : Option Decimal → Amount
number_amount (Some d) = amount_in (money_of d)
number_amount None = nothing

abbrev pub price_amount : Result Decimal PriceError → Amount
price_amount (Ok d) = amount_in (money_of d)
price_amount (Err Unformed) = nothing
price_amount (Err NoNumber) = nothing

-- money of a field
abbrev pub money_in : Option (List ℕ) → Amount
money_in None = nothing
money_in (Some s) = number_amount (number_of s)

-- the price: a number, or a string that spells one
abbrev pub price_in : Option (List ℕ) → Option (List ℕ) → Amount
price_in (Some s) t = number_amount (number_of s)
price_in None (Some t) = price_amount (price_of t)
price_in None None = nothing

unfoldable pub price_at : Picked → Amount
price_at plan = price_in (spelling 53 plan) (text 53 plan)

-- a segment whose fields are numbered from f on
unfoldable pub plan_segment : ℕ → Picked → Segment
plan_segment f x =
    record {
      start = integer_in (spelling f x);
      rate = money_in (spelling (f + 1) x);
      interval = integer_in (spelling (f + 2) x);
      end = given (field (f + 3) x) ⇒ Some (integer_in (spelling (f + 3) x)) else None;
    }

unfoldable pub per_kilometre : Picked → List Segment
per_kilometre plan = map (plan_segment 57) (field_items 56 plan)

unfoldable pub per_minute : Picked → List Segment
per_minute plan = map (plan_segment 62) (field_items 61 plan)

-- the plan of an id
unfoldable pub plan_of : List Picked → List ℕ → Option Picked
plan_of [] id = None
plan_of (x ∷ l) id = elim (text 50 x) [ None ↦ plan_of l id | Some t ↦ same t id ⇒ Some x else plan_of l id ]

-- what a plan asks for a ride
unfoldable pub trip_amount : Picked → (seconds metres : ℕ) → ℤ
trip_amount plan seconds metres =
    amount (ten_thousandths (price_at plan)) (per_minute plan) (per_kilometre plan) (minutes_of seconds) (kilometres_of metres)

unfoldable pub past_minutes : Picked → ℕ → Bool
past_minutes plan seconds = past (per_minute plan) (minutes_of seconds).count

unfoldable pub past_kilometres : Picked → ℕ → Bool
past_kilometres plan metres = past (per_kilometre plan) (kilometres_of metres).count
