-- What the bytes of a zone's values say, and what rules give so far, as the code reads and keeps them.
use Rattle.std.specs.Prelude.{Bool, true, false, List, [], ◌∷◌, ℕ, is_some, None, Result, Ok, Err}
use Rattle.std.specs.Option.{option_or}
use Rattle.notation.specs.Ascii.{bytes}
use Rattle.notation.specs.Choice.{◌⇒◌else◌, ◌and◌}
use Rattle.schema.specs.Shape.{Shape, Sort, scalar}
use Rattle.schema.specs.Pick.{Picked}
use Rattle.document.specs.inner.Values.{member_of, spelled_by, truth_by}
use Rattle.document.specs.Document.{spelling, truth}
use Rattle.word.specs.declared.refusal.Refusal.{Refusal}
use Rattle.word.specs.declared.refusal.Refusal.TheVariants.{NoRule}
use Rattle.zone.specs.declared.Rule.{Rule}
use Rattle.zone.specs.declared.Given.{Given}
use Rattle.zone.specs.Answer.{yes}
use Rattle.zone.specs.Zone.{integer, begun, unended, applies}

-- an id among those of a rule
abbrev pub id_shape : Shape
id_shape = scalar Sort.id

-- a zone's window, of the bytes of its properties
unfoldable pub counts_by : List ℕ → ℕ → Bool
counts_by p moment =
    begun (integer (spelled_by (member_of p (bytes "start")))) moment and
    unended (integer (spelled_by (member_of p (bytes "end")))) moment

-- what no rule gives; what rules give, and where they give nothing what later ones do
abbrev pub nothing : Given
nothing = record { any = false; ride = None; through = None; speed = None; parking = None }

unfoldable pub or_given : Given → Given → Given
or_given a later =
    record {
      any = a.any ⇒ true else later.any;
      ride = option_or a.ride later.ride;
      through = option_or a.through later.through;
      speed = option_or a.speed later.speed;
      parking = option_or a.parking later.parking;
    }

-- what a rule gives by the bytes of its object; and what picked rules give
unfoldable pub given_by : List ℕ → Given
given_by p =
    record {
      any = true;
      ride = truth_by (member_of p (bytes "ride_allowed"));
      through = truth_by (member_of p (bytes "ride_through_allowed"));
      speed = integer (spelled_by (member_of p (bytes "maximum_speed_kph")));
      parking = truth_by (member_of p (bytes "station_parking"));
    }

unfoldable pub given_in : Picked → Given
given_in x =
    record {
      any = true;
      ride = truth 79 x;
      through = truth 80 x;
      speed = integer (spelling 81 x);
      parking = truth 82 x;
    }

unfoldable pub all_given : List Picked → Given
all_given [] = nothing
all_given (r ∷ rs) = or_given (given_in r) (all_given rs)

-- with a rule, where it is for the type
unfoldable pub with_rule : List ℕ → Given → Picked → Given
with_rule type a x = applies x type ⇒ or_given a (given_in x) else a

-- whether all values are given, so that no later rule counts
unfoldable pub is_full : Given → Bool
is_full a = a.any and is_some a.ride and is_some a.through and is_some a.speed and is_some a.parking

-- what is answered
unfoldable pub ruling_by : Given → Result Rule Refusal
ruling_by a = a.any ⇒ Ok (record { ride = yes a.ride; through = yes a.through; speed = a.speed; parking = a.parking }) else Err NoRule
