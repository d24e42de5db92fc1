-- The question "quote" of document 01, "Questions and their numbers", as document 02's W6 leaves it, in that table's numbers and order of checking. An
-- amount, a mark or parts that an answer does not give are zero or no.
use Rattle.std.specs.Prelude.{Bool, false, List, ℕ, leb, ℤ, pos, Err, Ok, Result, Option, None, Some}
use Rattle.notation.specs.Choice.{◌⇒◌else◌, ◌and◌}
use Rattle.word.specs.declared.Parts.{Parts}
use Rattle.word.specs.declared.refusal.Refusal.{Refusal}
use Rattle.word.specs.Refusals.{no_parts, refusal_number, refusal_parts}
use Rattle.schema.specs.Shape.{Table, file_shape}
use Rattle.schema.specs.Pick.{Picked}
use Rattle.clean.specs.Clean.{records_in, clean_of}
use Rattle.quote.specs.declared.Quote.{Quote}
use Rattle.quote.specs.Plan.{plan_of, trip_amount, past_minutes, past_kilometres}
use Rattle.fault.specs.Outcome.{Outcome}

-- the longest ride
abbrev pub most_seconds : ℕ
most_seconds = 2_678_400

abbrev pub most_metres : ℕ
most_metres = 1_000_000

-- an answer's number and values
pub record Answer : Type 0 where
  pub number : ℕ
  pub parts : Parts
  pub amount : ℤ
  pub past_minutes : Bool
  pub past_kilometres : Bool

-- a refusal; that of a file that is not clean, with its word's parts; and a price
abbrev pub refused : ℕ → Answer
refused n = record { number = n; parts = no_parts; amount = pos 0; past_minutes = false; past_kilometres = false }

abbrev pub unclean : Parts → Answer
unclean p = record { number = 5; parts = p; amount = pos 0; past_minutes = false; past_kilometres = false }

abbrev pub priced : ℤ → Bool → Bool → Answer
priced z m k = record { number = 0; parts = no_parts; amount = z; past_minutes = m; past_kilometres = k }

-- the values of a quote; and the number and the values of each answer
abbrev pub quoted : Quote → Answer
quoted q = priced q.amount q.past_minutes q.past_kilometres

abbrev pub answer : Result Quote Refusal → Answer
answer (Ok q) = quoted q
answer (Err r) =
    record { number = refusal_number r; parts = refusal_parts r; amount = pos 0; past_minutes = false; past_kilometres = false }

-- 6 where there is no such plan, and otherwise what the plan asks, with its marks
abbrev pub plan_quote : ℕ → ℕ → Option Picked → Answer
plan_quote seconds metres None = refused 6
plan_quote seconds metres (Some plan) = priced (trip_amount plan seconds metres) (past_minutes plan seconds) (past_kilometres plan metres)

-- of a clean file of plans
unfoldable pub clean_quote : (plans : List Picked) → List ℕ → ℕ → ℕ → Answer
clean_quote plans id seconds metres = plan_quote seconds metres (plan_of plans id)

-- a ride that is short enough
unfoldable pub short : ℕ → ℕ → Bool
short seconds metres = leb seconds most_seconds and leb metres most_metres

-- 5 where the file is not clean
abbrev pub of_clean : Outcome → Answer → Answer
of_clean (Ok _) next = next
of_clean (Err p) next = unclean p

-- by a table, of the bytes s of file 5, and of an id: 4 where the ride is too long, before all else
unfoldable pub quote_of : Table → (s id : List ℕ) → (seconds metres : ℕ) → Answer
quote_of t s id seconds metres =
    short seconds metres ⇒
    of_clean (clean_of t 5 s) (clean_quote (records_in (file_shape t 5) s) id seconds metres)
    else refused 4
