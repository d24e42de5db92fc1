-- The zone rule on files, computed, where a rule is easy to get wrong. Document 01's own reading (j) stands in the table of all of them.
use Rattle.std.specs.Prelude.{Bool, true, false, List, [], ◌∷◌, ◌++◌, refl, ℕ, ◌*◌, eqb, ℤ, pos, neg_ℤ, Some, None}
use Prim.Native.String.{String}
use Rattle.notation.specs.Ascii.{bytes}
use Rattle.notation.specs.Case.{Case, Answers, json}
use Rattle.schema.specs.Tables.{table_at}
use Rattle.schema.specs.Records.{identified}
use Rattle.schema.specs.Pick as pick
use Rattle.geometry.specs.Ring.{Point}
use Rattle.geometry.specs.Cases.{degrees}
use Rattle.document.specs.Document as document
use Rattle.judge.specs.Cases.{judging, in_data}
use Rattle.clean.specs.Clean as clean
use Rattle.zone.specs.Zone.{counts, rings_hold, polygons_hold_by, any_text, applies, zone_rules_by, rules_by, applicable, rules_at, first_given}
use Rattle.word.specs.Word.{no_parts}
use Rattle.zone.specs.Answer.{Answer, refused, found, values, on_map, ruling_of}

-- opens every definition of this layer
unfoldable pub ruled : Unit {0}
unfolding judging identified pick.slot_of document.field document.field_items document.along document.text document.spelling document.truth clean.tree_of clean.records_of clean.used_before clean.repeated_id clean.repeats_from clean.repeats clean.clean_by counts rings_hold polygons_hold_by any_text applies zone_rules_by rules_by applicable rules_at first_given values on_map ruling_of
ruled = tt

-- a file of these zones; a zone of these polygons, with these other properties and these rules
abbrev file : List ℕ → List ℕ
file zones = in_data (json "{'geofencing_zones':{'type':'FeatureCollection','features':[" ++ zones ++ json "]}}")

abbrev zone_of : (polygons window rules : String) → List ℕ
zone_of polygons window rules =
    json "{'type':'Feature','geometry':{'type':'MultiPolygon','coordinates':[" ++
    json polygons ++
    json "]},'properties':{" ++
    json window ++
    json "'rules':[" ++
    json rules ++
    json "]}}"

abbrev both : List ℕ → List ℕ → List ℕ
both a b = file (a ++ json "," ++ b)

-- a square of two degrees from the origin, clockwise; and a rule for every type
abbrev pub square : String
square = "[[[0,0],[0,2],[2,2],[2,0],[0,0]]]"

abbrev for_all : String
for_all = "{'ride_allowed':true,'ride_through_allowed':false}"

-- the answer of a file at a point, for a type, at a moment; no rule applies; a rule without a speed and without a word on parking, one with a speed
abbrev Question : Type 0
Question = List ℕ × Point × String × ℕ

abbrev pub none : Answer
none = refused 9 no_parts

abbrev pub bare : (ride through : Bool) → Answer
bare ride through = found (record { ride = ride; through = through; speed = None; parking = None })

abbrev limited : (ride through : Bool) → (speed : ℕ) → Answer
limited ride through speed = found (record { ride = ride; through = through; speed = Some speed; parking = None })

-- a point in millionths: lon, lat
abbrev millionths : ℤ → ℤ → Point
millionths x y = record { lon = x; lat = y }

abbrev order : List (Case Question Answer)
order =
    -- a point past its range is told before the file is asked, and a file that is not clean before any rule
    ("past the greatest lon", (json "7", millionths (pos 180_000_001) (pos 0), "t", 0), refused 8 no_parts) ∷
    ("below the least lon", (json "7", millionths (neg_ℤ (pos 180_000_001)) (pos 0), "t", 0), refused 8 no_parts) ∷
    ("past the greatest lat", (json "7", millionths (pos 0) (pos 90_000_001), "t", 0), refused 8 no_parts) ∷
    ("below the least lat", (json "7", millionths (pos 0) (neg_ℤ (pos 90_000_001)), "t", 0), refused 8 no_parts) ∷
    ("a corner of the map, and a file that is not clean", (json "7", millionths (neg_ℤ (pos 180_000_000)) (pos 90_000_000), "t", 0), refused 5 (record { file = 6; kind = 7; field = 0; «record» = 0; sub = 0; offset = 0 })) ∷
    ("no file", ([], degrees 1 1, "t", 0), none) ∷
    []

order-answered : Answers (λ c. ruling_of (table_at 0) c.0 c.1 (bytes c.2) c.3) order
unfolding ruled
order-answered = refl

-- a zone that counts for a while; rules for a type
abbrev in_time : List ℕ
in_time = file (zone_of square "'start':5,'end':9," for_all)

abbrev named : String → List ℕ
named rule = file (zone_of square "" rule)

abbrev for_none : String
for_none = "{'vehicle_type_id':[],'ride_allowed':true,'ride_through_allowed':true}"

abbrev for_blank : String
for_blank = "{'vehicle_type_id':'','ride_allowed':true,'ride_through_allowed':true}"

abbrev for_some : String
for_some = "{'vehicle_type_id':['','u'],'ride_allowed':true,'ride_through_allowed':true}"

-- document 02's own case: the park's rule stands before the town's and gives no speed
abbrev park : List ℕ
park = zone_of square "" "{'ride_allowed':false,'ride_through_allowed':false}"

abbrev town : List ℕ
town = zone_of "[[[1,0],[1,4],[4,4],[4,0],[1,0]]]" "" "{'ride_allowed':true,'ride_through_allowed':true,'maximum_speed_kph':20}"

-- two zones with several rules: of a type, of none, with values that are given, blank or missing
abbrev several : List ℕ
several =
    both
    (zone_of square "" "{'vehicle_type_id':['u'],'ride_allowed':false,'ride_through_allowed':false,'maximum_speed_kph':7},{'ride_allowed':true,'ride_through_allowed':true,'maximum_speed_kph':'','station_parking':false}")
    (zone_of square "" "{'vehicle_type_id':[],'ride_allowed':false,'ride_through_allowed':false,'maximum_speed_kph':5},{'ride_allowed':false,'ride_through_allowed':false,'maximum_speed_kph':0,'station_parking':true},{'ride_allowed':true,'ride_through_allowed':true,'maximum_speed_kph':9}")

-- a zone that is over, before the town
abbrev over : List ℕ
over = both (zone_of square "'end':9," "{'ride_allowed':false,'ride_through_allowed':false,'maximum_speed_kph':3}") town

abbrev rules : List (Case Question Answer)
rules =
    ("before a zone's start", (in_time, degrees 1 1, "t", 4), none) ∷
    ("from it on", (in_time, degrees 1 1, "t", 5), bare true false) ∷
    ("before its end", (in_time, degrees 1 1, "t", 8), bare true false) ∷
    ("at its end", (in_time, degrees 1 1, "t", 9), none) ∷
    ("no ids are for no type", (named for_none, degrees 1 1, "t", 0), none) ∷
    ("nor for the blank one", (named for_none, degrees 1 1, "", 0), none) ∷
    ("blank ids are for every type", (named for_blank, degrees 1 1, "t", 0), bare true true) ∷
    ("and for the blank one", (named for_blank, degrees 1 1, "", 0), bare true true) ∷
    ("a blank among ids is not for every type", (named for_some, degrees 1 1, "t", 0), none) ∷
    ("but for the blank one", (named for_some, degrees 1 1, "", 0), bare true true) ∷
    ("and the other is for its type", (named for_some, degrees 1 1, "u", 0), bare true true) ∷
    ("all four values", (named "{'ride_allowed':false,'ride_through_allowed':true,'maximum_speed_kph':25,'station_parking':false}", degrees 1 1, "t", 0), found (record { ride = false; through = true; speed = Some 25; parking = Some false })) ∷
    -- overlapping zones
    ("the park alone", (both park town, degrees 0 1, "t", 0), bare false false) ∷
    ("in both, the park's ban and the town's speed", (both park town, degrees 2 1, "t", 0), limited false false 20) ∷
    ("the town alone", (both park town, degrees 3 1, "t", 0), limited true true 20) ∷
    ("in neither", (both park town, degrees 5 1, "t", 0), none) ∷
    ("the earlier wins where they collide", (both town park, degrees 2 1, "t", 0), limited true true 20) ∷
    ("a rule of the type first, then what it does not give", (several, degrees 1 1, "u", 0), found (record { ride = false; through = false; speed = Some 7; parking = Some false })) ∷
    ("a blank is not given, 0 and no are; rules for other types give nothing", (several, degrees 1 1, "t", 0), found (record { ride = true; through = true; speed = Some 0; parking = Some false })) ∷
    ("a zone before its end", (over, degrees 1 1, "t", 8), limited false false 3) ∷
    ("one that is over gives nothing", (over, degrees 1 1, "t", 9), limited true true 20) ∷
    []

rules-answered : Answers (λ c. ruling_of (table_at 0) c.0 c.1 (bytes c.2) c.3) rules
unfolding ruled
rules-answered = refl

-- what a zone of these polygons answers at a point; whether it holds the point
abbrev pub ruling : String → Point → Answer
ruling polygons q = ruling_of (table_at 0) (file (zone_of polygons "" for_all)) q (bytes "t") 0

abbrev held : String → Point → Bool
held polygons q = eqb (ruling polygons q).number 0

-- Positions are rounded before closure, area and point are asked: a border half a millionth past two degrees, and a nearer one; and a triangle that winds clockwise when
-- its corners are rounded, and the other way when they are cut.
abbrev farther : String
farther = "[[[0,0],[0,2],[2.0000005,2],[2.0000005,0],[0,0]]]"

abbrev nearer : String
nearer = "[[[0,0],[0,2],[2.0000004,2],[2.0000004,0],[0,0]]]"

abbrev winding : String
winding = "[[[0,0],[0.000002,0.0000016],[0.0000016,0.000001],[0,0]]]"

abbrev rounding : List (Case (String × Point) Answer)
rounding =
    ("rounded up, a millionth past two degrees is held", (farther, millionths (pos 2_000_001) (pos 1)), bare true false) ∷
    ("and no more", (farther, millionths (pos 2_000_002) (pos 1)), none) ∷
    ("rounded down, two degrees are held", (nearer, millionths (pos 2_000_000) (pos 1)), bare true false) ∷
    ("and no more", (nearer, millionths (pos 2_000_001) (pos 1)), none) ∷
    ("a corner of the triangle", (winding, millionths (pos 2) (pos 1)), bare true false) ∷
    ("beside it", (winding, millionths (pos 1) (pos 2)), none) ∷
    ("far outside", (winding, degrees 1 1), none) ∷
    []

rounding-answered : Answers (λ c. ruling c.0 c.1) rounding
unfolding ruled
rounding-answered = refl

-- Polygons of several rings, at points in quarters of a degree: a hole, the same the other way round, two that overlap, one outside the first ring, one that touches
-- it, one out of a first ring that goes counterclockwise, and one that another polygon covers in part.
abbrev quarters : ℕ → ℕ → Point
quarters x y = millionths (pos (x * 250_000)) (pos (y * 250_000))

abbrev hole : String
hole = "[[[0,0],[0,2],[2,2],[2,0],[0,0]],[[0,0],[0,1],[1,1],[1,0],[0,0]]]"

abbrev hole_backwards : String
hole_backwards = "[[[0,0],[0,2],[2,2],[2,0],[0,0]],[[0,0],[1,0],[1,1],[0,1],[0,0]]]"

abbrev overlapping : String
overlapping = "[[[0,0],[0,2],[2,2],[2,0],[0,0]],[[0,0],[0,1],[1,1],[1,0],[0,0]],[[0.5,0.5],[0.5,1.5],[1.5,1.5],[1.5,0.5],[0.5,0.5]]]"

abbrev apart : String
apart = "[[[0,0],[0,1],[1,1],[1,0],[0,0]],[[2,0],[2,1],[3,1],[3,0],[2,0]]]"

abbrev touching : String
touching = "[[[0,0],[0,2],[2,2],[2,0],[0,0]],[[2,0],[1,1],[2,2],[2,0]]]"

abbrev outer : String
outer = "[[[0,0],[2,0],[2,2],[0,2],[0,0]],[[3,0],[3,1],[4,1],[4,0],[3,0]]]"

abbrev covered : String
covered = "[[[0,0],[0,2],[2,2],[2,0],[0,0]],[[0,0],[0,1],[1,1],[1,0],[0,0]]],[[[0,0],[0,1],[1,0],[0,0]]]"

abbrev holes : List (Case (String × Point) Bool)
holes =
    ("in a hole", (hole, quarters 2 2), false) ∷
    ("on its edge", (hole, quarters 4 2), true) ∷
    ("beside it", (hole, quarters 6 6), true) ∷
    ("outside the first ring", (hole, quarters 12 4), false) ∷
    ("in a hole that goes backwards", (hole_backwards, quarters 2 2), false) ∷
    ("on its edge", (hole_backwards, quarters 4 2), true) ∷
    ("beside it", (hole_backwards, quarters 6 6), true) ∷
    ("outside the first ring", (hole_backwards, quarters 12 4), false) ∷
    ("in the first of two holes", (overlapping, quarters 1 1), false) ∷
    ("in both", (overlapping, quarters 3 3), false) ∷
    ("in the first, on the edge of the second", (overlapping, quarters 2 3), true) ∷
    ("in neither", (overlapping, quarters 7 7), true) ∷
    ("in the first ring, the hole elsewhere", (apart, quarters 2 2), true) ∷
    ("in the hole", (apart, quarters 10 2), false) ∷
    ("on the hole's edge", (apart, quarters 8 2), true) ∷
    ("in a hole that touches the first ring", (touching, quarters 7 4), false) ∷
    ("where they touch", (touching, quarters 8 4), true) ∷
    ("beside the hole", (touching, quarters 3 4), true) ∷
    ("inside a first ring that goes backwards", (outer, quarters 4 4), false) ∷
    ("in the hole out there", (outer, quarters 14 2), false) ∷
    ("outside both", (outer, quarters 18 2), true) ∷
    ("in a hole, where another polygon covers it", (covered, quarters 1 1), true) ∷
    ("where it does not", (covered, quarters 3 3), false) ∷
    []

holes-answered : Answers (λ c. held c.0 c.1) holes
unfolding ruled
holes-answered = refl
