-- Broken rules and their order: document 01, "Kinds". Of all broken rules of a file, the least by record, field, sub and kind is named.
use Rattle.std.specs.Prelude.{Bool, true, false, List, [], ◌∷◌, ℕ, ltb, Option, None, Some}
use Rattle.notation.specs.Choice.{◌⇒◌else◌}
use Rattle.fault.specs.declared.Fault.{Fault}
use Rattle.fault.specs.declared.Place.{Place}

abbrev pub fault : (rec field sub kind : ℕ) → Fault
fault rec field sub kind = record { «record» = rec; field = field; sub = sub; kind = kind }

-- the top value stands in no record
abbrev pub top : Place
top = record { «record» = 0; sub = 0 }

-- faults of a field at a place
unfoldable pub faulty : Place → ℕ → List ℕ → List Fault
faulty p field [] = []
faulty p field (k ∷ ks) = fault p.«record» field p.sub k ∷ faulty p field ks

-- a comes before b
unfoldable pub before : Fault → Fault → Bool
before a b =
    ltb a.«record» b.«record» ⇒ true else
    ltb b.«record» a.«record» ⇒ false else
    ltb a.field b.field ⇒ true else
    ltb b.field a.field ⇒ false else
    ltb a.sub b.sub ⇒ true else
    ltb b.sub a.sub ⇒ false else
    ltb a.kind b.kind

-- the lesser of two, and the least of a list
unfoldable pub lesser : Option Fault → Option Fault → Option Fault
lesser None y = y
lesser (Some a) None = Some a
lesser (Some a) (Some b) = before b a ⇒ Some b else Some a

unfoldable pub least : List Fault → Option Fault
least [] = None
least (a ∷ l) = lesser (Some a) (least l)
