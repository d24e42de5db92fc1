-- Ids of arrays of records, computed. In the texts ' stands for a quotation mark.
use Rattle.std.specs.Prelude.{List, [], ◌∷◌, map, refl, ℕ, eqb}
use Prim.Native.String.{String}
use Rattle.notation.specs.Ascii.{bytes}
use Rattle.notation.specs.Case.{Case, Answers}
use Rattle.notation.specs.Choice.{◌⇒◌else◌}
use Rattle.sorting.specs.Cases.{sorting}
use Rattle.schema.specs.Records.{identified}
use Rattle.slots.specs.Cases.{gathering}
use Rattle.slots.specs.Found.{found_in}
use Rattle.document.specs.inner.Values.{member_of, text_by}
use Rattle.ids.specs.inner.Ids.{id_name, id_value, id_text, record_bytes, any_has, repeat_from, first_repeat, earlier}
use Rattle.ids.specs.inner.Notes.{in_order}

-- opens every definition of ids
unfoldable pub identifying : Unit {0}
unfolding gathering found_in member_of text_by identified id_name id_value id_text record_bytes any_has repeat_from first_repeat earlier
identifying = tt

abbrev mark : ℕ → ℕ
mark b = eqb b 0x27 ⇒ 0x22 else b

-- the records of an array
unfoldable records_in : String → List (List ℕ)
records_in s = record_bytes (map mark (bytes s))

-- the first of them whose id one before it has, in a file
unfoldable repeat_in : ℕ → String → ℕ
repeat_in sheet s = first_repeat sheet (records_in s)

abbrev repeats : List (Case (ℕ × String) ℕ)
repeats =
    ("all differ", (4, "[{'bike_id':'a'},{'bike_id':'b'}]"), 0) ∷
    ("the first that repeats an id", (4, "[{'bike_id':'a'},{'bike_id':'b'},{'bike_id':'b'},{'bike_id':'a'}]"), 3) ∷
    ("another spelling is the same id", (4, "[{'bike_id':'a'},{'bike_id':'a b'},{'bike_id':'\\u0061'}]"), 3) ∷
    ("no id, an empty one, a number", (4, "[{},{},{'bike_id':''},{'bike_id':''},{'bike_id':1},{'bike_id':1}]"), 0) ∷
    ("two ids are none", (4, "[{'bike_id':'a','bike_id':'a'},{'bike_id':'a'}]"), 0) ∷
    ("a sheet's own name for ids, and not deeper down", (5, "[{'bike_id':'a'},{'bike_id':'a'},{'x':{'plan_id':'a'},'plan_id':'b'},{'plan_id':'a'},{'plan_id':'b'}]"), 5) ∷
    ("regions", (8, "[{'region_id':'a'},{'name':'n','region_id':'a'}]"), 2) ∷
    []

repeats-answered : Answers (λ c. repeat_in c.0 c.1) repeats
unfolding identifying records_in repeat_in
repeats-answered = refl

-- the records of an array in the order of their ids
abbrev orders : List (Case String (List ℕ))
orders =
    ("none", "[]", []) ∷
    ("by their ids, and those without one first", "[{'bike_id':'b'},{},{'bike_id':'a'}]", 1 ∷ 2 ∷ 0 ∷ []) ∷
    ("decoded, and equal ids by record", "[{'bike_id':'b'},{'bike_id':'\\u0061'},{'bike_id':'a'}]", 1 ∷ 2 ∷ 0 ∷ []) ∷
    []

orders-answered : Answers (λ s. in_order 4 (map mark (bytes s))) orders
unfolding identifying sorting in_order
orders-answered = refl
