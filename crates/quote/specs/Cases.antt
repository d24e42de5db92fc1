-- Quotes of whole files, computed: the prices that document 002 works out, longer rides that cost less, and which refusal comes first. Document 01's own
-- readings (f) to (i) stand in the table of all of them.
use Rattle.std.specs.Prelude.{true, false, List, [], ◌∷◌, ◌++◌, refl, ℕ, pos}
use Prim.Native.String.{String}
use Rattle.notation.specs.Ascii.{bytes}
use Rattle.notation.specs.Case.{Case, Answers, json}
use Rattle.schema.specs.Tables.{table_at}
use Rattle.schema.specs.Records.{identified}
use Rattle.schema.specs.Pick.{slot_of}
use Rattle.document.specs.Document as document
use Rattle.fare.specs.Cases.{charging}
use Rattle.judge.specs.Cases.{judging, in_data}
use Rattle.clean.specs.Clean.{tree_of, records_of, used_before, repeated_id, repeats_from, repeats, clean_by}
use Rattle.quote.specs.Plan.{price_at, plan_segment, per_kilometre, per_minute, plan_of, trip_amount, past_minutes, past_kilometres}
use Rattle.quote.specs.Quote.{Answer, refused, unclean, priced, clean_quote, short, quote_of}

-- opens every definition of a quote
unfoldable pub quoting : Unit {0}
unfolding judging identified charging slot_of document.field document.field_items document.along document.text document.spelling tree_of records_of used_before repeated_id repeats_from repeats clean_by price_at plan_segment per_kilometre per_minute plan_of trip_amount past_minutes past_kilometres clean_quote short quote_of
quoting = tt

-- a file with these plans; a plan of this id, with its price and segments
abbrev file : List ℕ → List ℕ
file s = in_data (json "{'plans':[" ++ s ++ json "]}")

abbrev plan : String → String → List ℕ
plan id s = json "{'plan_id':'" ++ json id ++ json "','name':'n','currency':'USD','is_taxable':false,'description':'d','price':" ++ json s ++ json "}"

-- the quote of a file's only plan for so many seconds and metres
abbrev pub quote_by : String → (seconds metres : ℕ) → Answer
quote_by s seconds metres = quote_of (table_at 0) (file (plan "p" s)) (bytes "p") seconds metres

-- an amount without a mark; one past the minutes, and past both
abbrev pub fare : ℕ → Answer
fare n = priced (pos n) false false

abbrev pub ended_fare : ℕ → Answer
ended_fare n = priced (pos n) true false

abbrev both_ended : ℕ → Answer
both_ended n = priced (pos n) true true

-- document 002's first plan, of which document 01's (f) has other rides, and its second
abbrev two_steps : String
two_steps = "2,'per_min_pricing':[{'start':1,'rate':1,'interval':1},{'start':2,'rate':2,'interval':1}]"

abbrev by_both : String
by_both = "3,'per_km_pricing':[{'start':0,'rate':0.25,'interval':1}],'per_min_pricing':[{'start':0,'rate':0.50,'interval':1}]"

-- a discount past the price, which ends
abbrev deep : String
deep = "1,'per_min_pricing':[{'start':5,'rate':-3,'interval':0,'end':8}]"

abbrev prices : List (Case (String × ℕ × ℕ) Answer)
prices =
    ("two and a half minutes", (two_steps, 150, 0), fare 60_000) ∷
    ("ten minutes", (two_steps, 600, 0), fare 300_000) ∷
    ("ten minutes for a kilometre", (by_both, 600, 1000), fare 90_000) ∷
    ("and for a metre less", (by_both, 600, 999), fare 87_500) ∷
    ("short of a discount", (deep, 299, 0), fare 10_000) ∷
    ("past the price it gives no credit", (deep, 300, 0), fare 0) ∷
    ("short of its end", (deep, 479, 0), fare 0) ∷
    ("a sum below zero leaves the mark as it is", (deep, 480, 0), ended_fare 0) ∷
    []

prices-answered : Answers (λ c. quote_by c.0 c.1 c.2) prices
unfolding quoting
prices-answered = refl

-- Longer rides (docs/LONGER-RIDES.md): with a negative rate they may cost less. A discount from the tenth minute on, and one from the fifth kilometre on; one that
-- later charges make up for; one where all segments end; and a negative rate that only takes off what another goes on to charge.
abbrev from_minute : String
from_minute = "1,'per_min_pricing':[{'start':10,'rate':-0.5,'interval':0}]"

abbrev from_kilometre : String
from_kilometre = "2,'per_km_pricing':[{'start':5,'rate':-1.5,'interval':0}]"

abbrev for_a_while : String
for_a_while = "0,'per_min_pricing':[{'start':0,'rate':0.1,'interval':1},{'start':10,'rate':-0.5,'interval':0}]"

abbrev all_end : String
all_end = "0,'per_min_pricing':[{'start':0,'rate':1,'interval':0,'end':5},{'start':5,'rate':-0.25,'interval':0,'end':6}]"

abbrev capped : String
capped = "0,'per_min_pricing':[{'start':0,'rate':0.1,'interval':1},{'start':20,'rate':-0.1,'interval':1}]"

-- segments of both sorts, all with an end; and by the minute alone
abbrev two_ends : String
two_ends = "1,'per_km_pricing':[{'start':2,'rate':-0.5,'interval':0,'end':3}],'per_min_pricing':[{'start':0,'rate':0.25,'interval':15,'end':45}]"

abbrev one_end : String
one_end = "1,'per_min_pricing':[{'start':0,'rate':0.25,'interval':15,'end':45}]"

abbrev longer : List (Case (String × ℕ × ℕ) Answer)
longer =
    ("short of the tenth minute", (from_minute, 599, 0), fare 10_000) ∷
    ("from it on less", (from_minute, 600, 0), fare 5_000) ∷
    ("long after it", (from_minute, 6000, 0), fare 5_000) ∷
    ("short of the fifth kilometre", (from_kilometre, 600, 4999), fare 20_000) ∷
    ("from it on less", (from_kilometre, 600, 5000), fare 5_000) ∷
    ("nine minutes", (for_a_while, 540, 0), fare 10_000) ∷
    ("ten cost less", (for_a_while, 600, 0), fare 6_000) ∷
    ("fourteen cost what nine did", (for_a_while, 840, 0), fare 10_000) ∷
    ("and fifteen more", (for_a_while, 900, 0), fare 11_000) ∷
    ("short of the first end", (all_end, 240, 0), fare 10_000) ∷
    ("at it less, without a mark", (all_end, 300, 0), fare 7_500) ∷
    ("past the last end", (all_end, 360, 0), ended_fare 7_500) ∷
    ("the longest ride stays there", (all_end, 2_678_400, 0), ended_fare 7_500) ∷
    ("short of nineteen minutes", (capped, 1139, 0), fare 19_000) ∷
    ("nineteen", (capped, 1140, 0), fare 20_000) ∷
    ("from twenty on the amount stays, without a mark", (capped, 1200, 0), fare 20_000) ∷
    ("long after", (capped, 6000, 0), fare 20_000) ∷
    ("past the minutes, short of the second kilometre", (two_ends, 2700, 1999), ended_fare 17_500) ∷
    ("it goes on by the kilometres, here down", (two_ends, 2700, 2000), ended_fare 12_500) ∷
    ("past the kilometres alone", (two_ends, 2699, 3000), priced (pos 12_500) false true) ∷
    ("past both", (two_ends, 2700, 3000), both_ended 12_500) ∷
    ("it stays for the longest ride", (two_ends, 2_678_400, 3000), both_ended 12_500) ∷
    ("for the farthest", (two_ends, 2700, 1_000_000), both_ended 12_500) ∷
    ("and for both", (two_ends, 2_678_400, 1_000_000), both_ended 12_500) ∷
    ("without segments by the kilometre no mark for them", (one_end, 2700, 1_000_000), ended_fare 17_500) ∷
    ("nor for the longest ride, which asks the same", (one_end, 2_678_400, 1_000_000), ended_fare 17_500) ∷
    []

longer-answered : Answers (λ c. quote_by c.0 c.1 c.2) longer
unfolding quoting
longer-answered = refl

-- a file, an id, seconds and metres: which refusal comes first, and whose plan is asked
abbrev broken : (kind field rec offset : ℕ) → Answer
broken kind field rec offset = unclean (record { file = 5; kind = kind; field = field; «record» = rec; sub = 0; offset = offset })

abbrev two_plans : List ℕ
two_plans = file (plan "p" "1" ++ json "," ++ plan "\\u0070q" "2")

abbrev refusals : List (Case (List ℕ × String × ℕ × ℕ) Answer)
refusals =
    ("the longest and farthest ride: the file is asked", (json "[", "p", 2_678_400, 1_000_000), broken 2 0 0 1) ∷
    ("a second longer: it is not", (json "[", "p", 2_678_401, 1_000_000), refused 4) ∷
    ("a metre farther", (json "[", "p", 0, 1_000_001), refused 4) ∷
    ("a price below zero", (file (plan "p" "-1"), "p", 0, 0), broken 9 53 1 0) ∷
    ("an id twice", (file (plan "p" "1" ++ json "," ++ plan "p" "2"), "p", 0, 0), broken 12 50 2 0) ∷
    ("no file", ([], "p", 0, 0), refused 6) ∷
    ("an id", (two_plans, "p", 0, 0), fare 10_000) ∷
    ("an id that the file spells with an escape", (two_plans, "pq", 0, 0), fare 20_000) ∷
    ("no id", (two_plans, "", 0, 0), refused 6) ∷
    ("a longer one", (two_plans, "pqr", 0, 0), refused 6) ∷
    []

refusals-answered : Answers (λ c. quote_of (table_at 0) c.0 (bytes c.1) c.2 c.3) refusals
unfolding quoting
refusals-answered = refl
