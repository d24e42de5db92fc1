-- Where each file's records stand and what their ids are, computed.
use Rattle.std.specs.Prelude.{true, false, List, [], ◌∷◌, map, ◌≡◌, refl, ℕ, Option, None, Some}
use Prim.Native.String.{String}
use Rattle.notation.specs.Ascii.{bytes}
use Rattle.notation.specs.Case.{Case, Answers}
use Rattle.schema.specs.Shape.{Shape, unlisted, scalar, array, object, no_row, records, subs, ◌·◌·◌∶◌▸◌, ◌·◌·◌holds◌▸◌}
use Rattle.schema.specs.Shape.Need.{required as R, optional as O}
use Rattle.schema.specs.Shape.Sort.{text as S, id}
use Rattle.schema.specs.Table23.{vehicle_type, station, status, bike, plan, zone, region}
use Rattle.schema.specs.Records.{Key, Way, way_in, way_to, id_in, id_key, has_records, has_ids, located, identified}

abbrev key : ℕ → String → Key
key field name = record { field = field; name = bytes name }

abbrev way : List Key → Shape → Option Way
way keys item = Some (record { keys = keys; item = item })

abbrev ways : List (Case ℕ (Option Way))
ways =
    ("vehicle types", 1, way (key 4 "data" ∷ key 5 "vehicle_types" ∷ []) vehicle_type) ∷
    ("stations", 2, way (key 4 "data" ∷ key 5 "stations" ∷ []) station) ∷
    ("statuses", 3, way (key 4 "data" ∷ key 5 "stations" ∷ []) status) ∷
    ("bikes", 4, way (key 4 "data" ∷ key 5 "bikes" ∷ []) bike) ∷
    ("plans", 5, way (key 4 "data" ∷ key 5 "plans" ∷ []) plan) ∷
    ("zones", 6, way (key 4 "data" ∷ key 5 "geofencing_zones" ∷ key 7 "features" ∷ []) zone) ∷
    ("the system has none", 7, None) ∷
    ("regions", 8, way (key 4 "data" ∷ key 5 "regions" ∷ []) region) ∷
    ("before the first file", 0, None) ∷
    ("past the last", 9, None) ∷
    []

ways-answered : Answers way_to ways
unfolding located
ways-answered = refl

abbrev ids : List (Case ℕ (Option Key))
ids =
    ("vehicle types", 1, Some (key 10 "vehicle_type_id")) ∷
    ("stations", 2, Some (key 20 "station_id")) ∷
    ("statuses", 3, Some (key 30 "station_id")) ∷
    ("bikes", 4, Some (key 40 "bike_id")) ∷
    ("plans", 5, Some (key 50 "plan_id")) ∷
    ("zones have none", 6, None) ∷
    ("the system has no records", 7, None) ∷
    ("regions", 8, Some (key 100 "region_id")) ∷
    ("no file", 9, None) ∷
    []

ids-answered : Answers id_key ids
unfolding identified
ids-answered = refl

-- by the numbers of all files, and of none before and behind them
abbrev numbers : List ℕ
numbers = 0 ∷ 1 ∷ 2 ∷ 3 ∷ 4 ∷ 5 ∷ 6 ∷ 7 ∷ 8 ∷ 9 ∷ []

recorded : map has_records numbers ≡ false ∷ true ∷ true ∷ true ∷ true ∷ true ∷ true ∷ false ∷ true ∷ false ∷ []
unfolding located
recorded = refl

named : map has_ids numbers ≡ false ∷ true ∷ true ∷ true ∷ true ∷ true ∷ false ∷ false ∷ true ∷ false ∷ []
unfolding identified
named = refl

-- shapes that no file has
abbrev other : List (Case Shape (Option Way))
other =
    ("no array of records", object (1 · R · "a" ∶ S ▸ 2 · R · "b" holds array subs 3 (scalar S) ▸ no_row), None) ∷
    ("the first of two", object (1 · R · "a" holds object no_row ▸ 2 · R · "b" holds array records 3 unlisted ▸ 3 · O · "c" holds array records 4 (scalar S) ▸ no_row), way (key 2 "b" ∷ []) unlisted) ∷
    ("records at the top", array records 3 (scalar S), way [] (scalar S)) ∷
    []

other-answered : Answers way_in other
unfolding located
other-answered = refl

-- an id that is not first is a reference
later_id : id_in (1 · R · "name" ∶ S ▸ 2 · R · "plan_id" ∶ id ▸ no_row) ≡ None
unfolding identified
later_id = refl
