-- What an exported function answers: the number of document 01's table of questions, and the numbers that its buffer then holds. Number 0 gives all of its question's
-- values and number 5 the parts of a word, 0 standing for the values that it doesn't give; every other number is a refusal, gives none and so needs no room. Files are
-- judged by the table of version 2.3.
use Rattle.std.specs.Prelude.{Bool, true, false, List, [], ◌∷◌, ◌++◌, ℕ, suc, ◌-◌, ◌^◌, ℤ, pos, negsuc, eqb, is_some, unwrap_or}
use Rattle.notation.specs.Choice.{◌⇒◌else◌}
use Rattle.word.specs.declared.Parts.{Parts}
use Rattle.word.specs.Word as word
use Rattle.schema.specs.Table23.{table23}
use Rattle.quote.specs.Quote as quote
use Rattle.zone.specs.declared.Rule.{Rule}
use Rattle.zone.specs.Answer as zone
use Rattle.geometry.specs.Ring.{Point}
use Rattle.clean.specs.Show as show
use Rattle.verdict.specs.Verdict.{verdict_number, buffer_of}
use Rattle.skaveldro.specs.Encoding.{holds}

pub record Answer : Type 0 where
  pub number : ℕ
  pub values : List ℕ

-- whether an answer of that number gives values
abbrev pub gives : ℕ → Bool
gives n = eqb n 0 ⇒ true else eqb n 5

-- the answer of a number, with its values where it gives any
unfoldable pub answered : ℕ → List ℕ → Answer
answered n values = record { number = n; values = gives n ⇒ values else [] }

-- a word's parts
abbrev pub part_values : Parts → List ℕ
part_values p = p.file ∷ p.kind ∷ p.field ∷ p.«record» ∷ p.sub ∷ p.offset ∷ []

-- yes and no
abbrev pub bit : Bool → ℕ
bit true = 1
bit false = 0

-- a signed number in 64 bits, in two's complement
abbrev pub signed_bits : ℤ → ℕ
signed_bits (pos n) = n
signed_bits (negsuc n) = 2 ^ 64 - suc n

-- verdict: the number, and the buffer after the call
abbrev pub verdict_answer : (files : List (List ℕ)) → (buffer : List ℕ) → ℕ
verdict_answer = verdict_number table23

abbrev pub verdict_buffer : (files : List (List ℕ)) → (buffer : List ℕ) → List ℕ
verdict_buffer = buffer_of table23

-- read a word: its parts
abbrev pub word_values : word.Answer → List ℕ
word_values a = part_values a.parts

unfoldable pub word_answer : List ℕ → Answer
word_answer s = let a = word.read_word s in answered a.number (word_values a)

-- quote: parts, amount, past minutes, past kilometres
abbrev pub quote_values : quote.Answer → List ℕ
quote_values a = part_values a.parts ++ (signed_bits a.amount ∷ bit a.past_minutes ∷ bit a.past_kilometres ∷ [])

unfoldable pub quote_answer : (plans id : List ℕ) → (seconds metres : ℕ) → Answer
quote_answer plans id seconds metres =
    let a = quote.quote_of table23 plans id seconds metres in answered a.number (quote_values a)

-- zone rule: parts, then ride and through, the speed and parking, each of these two after whether it is given
abbrev pub rule_values : Rule → List ℕ
rule_values r =
    bit r.ride ∷ bit r.through ∷ bit (is_some r.speed) ∷ unwrap_or r.speed 0 ∷ bit (is_some r.parking) ∷ bit (unwrap_or r.parking false) ∷ []

abbrev pub zone_values : zone.Answer → List ℕ
zone_values a = part_values a.parts ++ rule_values a.rule

unfoldable pub zone_answer : (zones : List ℕ) → Point → (type : List ℕ) → (moment : ℕ) → Answer
zone_answer zones q type moment =
    let a = zone.ruling_of table23 zones q type moment in answered a.number (zone_values a)

-- show record: parts, then where the record begins and where it ends
abbrev pub shown_values : show.Answer → List ℕ
shown_values a = part_values a.parts ++ (a.from ∷ a.upto ∷ [])

unfoldable pub shown_answer : (file n : ℕ) → (bytes : List ℕ) → Answer
shown_answer file n s = let a = show.shown_of table23 file n s in answered a.number (shown_values a)

-- the number that is answered: 2 where there are values and the buffer has no room for them
unfoldable pub told : (buffer : List ℕ) → Answer → ℕ
told buffer a = holds buffer a.values ⇒ a.number else 2
