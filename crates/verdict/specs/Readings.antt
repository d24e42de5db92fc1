-- Document 01's worked readings (a) to (l) as one table, (g) with document 02's W2 and (l) with W1's file 7: what is asked, and the paper's answer. One test
-- runs over all of it.
use Rattle.std.specs.Prelude.{true, false, List, [], ◌∷◌, refl, ℕ, replicate}
use Prim.Native.String.{String}
use Rattle.notation.specs.Case.{Case, Answers, json}
use Rattle.radix.specs.Radix.{weight, number_from, digits, number}
use Rattle.radix.specs.Fields.{bytes_number, packed, unpacked}
use Rattle.word.specs.Form.{written_form}
use Rattle.word.specs.Word as reading
use Rattle.schema.specs.Tables.{table_at}
use Rattle.geometry.specs.Ring.{Point}
use Rattle.geometry.specs.Cases.{degrees}
use Rattle.quote.specs.Quote as quote
use Rattle.quote.specs.Cases.{quoting, quote_by, fare, ended_fare}
use Rattle.zone.specs.Answer as zone
use Rattle.zone.specs.Cases.{ruled, ruling, bare, none, square}
use Rattle.cross.specs.Stage.{Feeds}
use Rattle.verdict.specs.Verdict.{verdict_of, said}
use Rattle.verdict.specs.Cases.{judging_sets, listing, bikes_alone, with_system, broken, three_bikes}
use Rattle.fault.specs.Outcome.{Outcome, unbroken}

-- what is asked: the verdict on a set, its word, what bytes say as a word, what a plan asks for a ride of so many seconds, and the rule of a zone of these
-- polygons at a point
data Question : Type 0 where
  judge word_for : Feeds → Question
  read_word : List ℕ → Question
  ride : String → ℕ → Question
  rule_at : String → Point → Question

data Answer : Type 0 where
  judged : Outcome → Answer
  bytes : List ℕ → Answer
  says : reading.Answer → Answer
  asks : quote.Answer → Answer
  rules : zone.Answer → Answer

unfoldable answered : Question → Answer
answered (judge s) = judged (verdict_of (table_at 0) s)
answered (word_for s) = bytes (reading.word_of written_form (said (verdict_of (table_at 0) s)))
answered (read_word s) = says (reading.read_word s)
answered (ride plan seconds) = asks (quote_by plan seconds 0)
answered (rule_at polygons q) = rules (ruling polygons q)

-- a file 4 that stage A refuses
abbrev refused : (kind offset : ℕ) → Answer
refused kind offset = judged (broken 4 kind 0 0 0 offset)

-- the plans of (f) to (i), by price and segments; (j)'s ring the other way round; the bytes of (k) and (l), and (l)'s set
abbrev f : String
f = "2,'per_min_pricing':[{'start':1,'rate':1,'interval':1},{'start':2,'rate':2,'interval':1}]"

abbrev g : String
g = "0,'per_min_pricing':[{'start':10,'rate':-0.5,'interval':0}]"

abbrev h : String
h = "1,'per_min_pricing':[{'start':0,'rate':0.25,'interval':15,'end':45}]"

abbrev i : String
i = "3,'per_min_pricing':[{'start':20,'rate':1,'interval':1,'end':20}]"

abbrev reversed : String
reversed = "[[[0,0],[2,0],[2,2],[0,2],[0,0]]]"

abbrev k : List ℕ
k = 0x14 ∷ 0x62 ∷ 0x80 ∷ 0x03 ∷ 0 ∷ 0 ∷ 0 ∷ 0 ∷ []

abbrev l : List ℕ
l = 0x10 ∷ 0 ∷ 0 ∷ 0 ∷ 0 ∷ 0 ∷ 0 ∷ 0 ∷ []

abbrev one_bike : Feeds
one_bike = with_system [] [] (listing "bikes" "{'bike_id':'a','lat':1,'lon':1,'is_reserved':false,'is_disabled':false}")

abbrev table : List (Case Question Answer)
table =
    ("(a) a comma before the bracket", judge (bikes_alone (json "[1,]")), refused 2 3) ∷
    ("(b) a digit behind a zero", judge (bikes_alone (json "[01]")), refused 2 2) ∷
    ("(c) a surrogate alone", judge (bikes_alone (json "'\\ud800'")), refused 3 1) ∷
    ("(d) a blank alone", judge (bikes_alone (json " ")), refused 2 1) ∷
    ("(e) seventeen brackets", judge (bikes_alone (replicate 17 0x5b)), refused 4 16) ∷
    ("(f) 59 s", ride f 59, asks (fare 20_000)) ∷
    ("(f) 60 s", ride f 60, asks (fare 30_000)) ∷
    ("(f) 105 s", ride f 105, asks (fare 30_000)) ∷
    ("(f) 120 s", ride f 120, asks (fare 60_000)) ∷
    ("(f) 180 s", ride f 180, asks (fare 90_000)) ∷
    ("(g) 599 s", ride g 599, asks (fare 0)) ∷
    ("(g) 600 s: a sum of −5000 asks nothing", ride g 600, asks (fare 0)) ∷
    ("(h) 0 s", ride h 0, asks (fare 12_500)) ∷
    ("(h) 2,699 s: no mark", ride h 2_699, asks (fare 17_500)) ∷
    ("(h) 2,700 s: past minutes", ride h 2_700, asks (ended_fare 17_500)) ∷
    ("(i) 19 minutes: the price alone", ride i 1_199, asks (fare 30_000)) ∷
    ("(i) 20 minutes: nothing is charged", ride i 1_200, asks (ended_fare 30_000)) ∷
    ("(i) 21 minutes", ride i 1_260, asks (ended_fare 30_000)) ∷
    ("(i) 500 minutes", ride i 30_000, asks (ended_fare 30_000)) ∷
    ("(j) inside", rule_at square (degrees 1 1), rules (bare true false)) ∷
    ("(j) a corner", rule_at square (degrees 2 2), rules (bare true false)) ∷
    ("(j) outside", rule_at square (degrees 3 1), rules none) ∷
    ("(j) reversed, outside", rule_at reversed (degrees 3 1), rules (bare true false)) ∷
    ("(j) reversed, an edge", rule_at reversed (degrees 2 1), rules (bare true false)) ∷
    ("(j) reversed, inside", rule_at reversed (degrees 1 1), rules none) ∷
    ("(k) the third bike has no id", judge (bikes_alone three_bikes), judged (broken 4 6 40 3 0 0)) ∷
    ("(k) as a word", word_for (bikes_alone three_bikes), bytes k) ∷
    ("(k) read back", read_word k, says (record { number = 0; parts = said (broken 4 6 40 3 0 0) })) ∷
    ("(l) a sound set", judge one_bike, judged unbroken) ∷
    ("(l) as a word", word_for one_bike, bytes l) ∷
    ("(l) read back", read_word l, says (record { number = 0; parts = said unbroken })) ∷
    []

readings : Answers answered table
unfolding quoting ruled judging_sets weight number_from number digits bytes_number packed unpacked reading.word_of reading.keeps reading.judged reading.read reading.read_word answered
readings = refl
