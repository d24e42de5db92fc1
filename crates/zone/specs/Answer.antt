-- The question "zone rule" of document 01, with document 02's request W4: its numbers in the order of checking, and the four values, each by the first
-- rule that applies and gives it. Where an answer has no parts or values, zero and no stand in.
use Rattle.std.specs.Prelude.{Bool, false, List, [], ◌∷◌, ℕ, pos, neg_ℤ, Result, Err, Ok, Option, None, Some}
use Rattle.std.specs.Int.Signed.{le_z}
use Rattle.notation.specs.Choice.{◌⇒◌else◌, ◌and◌}
use Rattle.word.specs.declared.Parts.{Parts}
use Rattle.word.specs.declared.refusal.Refusal.{Refusal}
use Rattle.word.specs.Refusals.{no_parts, refusal_number, refusal_parts}
use Rattle.schema.specs.Shape.{Table}
use Rattle.schema.specs.Pick.{Picked}
use Rattle.geometry.specs.Ring.{Point}
use Rattle.document.specs.Document.{spelling, truth}
use Rattle.clean.specs.Clean.{clean_of}
use Rattle.zone.specs.declared.Rule.{Rule}
use Rattle.zone.specs.Zone.{integer, rules_at, first_given}
use Rattle.fault.specs.Outcome.{Outcome}

-- no rule
abbrev pub no_rule : Rule
no_rule = record { ride = false; through = false; speed = None; parking = None }

-- an answer's number and values
pub record Answer : Type 0 where
  pub number : ℕ
  pub parts : Parts
  pub rule : Rule

-- a refusal, which gives no rule
abbrev pub refused : ℕ → Parts → Answer
refused number p = record { number = number; parts = p; rule = no_rule }

-- a rule's values
abbrev pub found : Rule → Answer
found rule = record { number = 0; parts = no_parts; rule = rule }

abbrev pub answer : Result Rule Refusal → Answer
answer (Ok rule) = found rule
answer (Err r) = refused (refusal_number r) (refusal_parts r)

-- a boolean, no where it is not given
abbrev pub yes : Option Bool → Bool
yes None = false
yes (Some b) = b

-- the four values as an answer has them; the last two where they are given
abbrev pub rule_of : (ride through : Option Bool) → (speed : Option (List ℕ)) → (parking : Option Bool) → Rule
rule_of ride through speed parking =
    record {
      ride = yes ride;
      through = yes through;
      speed = integer speed;
      parking = parking;
    }

-- fields 79 to 82 of these rules, each by the first that gives it
unfoldable pub values : List Picked → Rule
values l = rule_of (first_given (truth 79) l) (first_given (truth 80) l) (first_given (spelling 81) l) (first_given (truth 82) l)

-- a point whose lon and lat are in their ranges
unfoldable pub on_map : Point → Bool
on_map q =
    le_z (neg_ℤ (pos 180_000_000)) q.lon and le_z q.lon (pos 180_000_000) and
    le_z (neg_ℤ (pos 90_000_000)) q.lat and le_z q.lat (pos 90_000_000)

-- of a clean file: no rule applies, or the values of those that do
abbrev pub of_rules : List Picked → Answer
of_rules [] = refused 9 no_parts
of_rules (r ∷ rs) = found (values (r ∷ rs))

abbrev pub of_clean : Outcome → Answer → Answer
of_clean (Ok _) next = next
of_clean (Err p) next = refused 5 p

-- by a table, of the bytes s of file 6, a point, a type and a moment
unfoldable pub ruling_of : Table → (s : List ℕ) → Point → (type : List ℕ) → (moment : ℕ) → Answer
ruling_of t s q type moment = on_map q ⇒ of_clean (clean_of t 6 s) (of_rules (rules_at t s q type moment)) else refused 8 no_parts
