-- Field 73 on cases, computed: every rule at its limit, with all that is found.
use Rattle.std.specs.Prelude.{List, [], ◌∷◌, map, refl, ℕ, zero, suc, Option, None, Some}
use Prim.Native.String.{String}
use Rattle.notation.specs.Ascii.{bytes}
use Rattle.notation.specs.Case.{Case, Answers}
use Rattle.json_text.specs.Cases.{reading}
use Rattle.walk.specs.Part.{part_tree}
use Rattle.decimal.specs.Cases.{deciding}
use Rattle.geometry.specs.Cases.{holding}
use Rattle.schema.specs.Table23.{coordinates}
use Rattle.schema.specs.Tables.{written}
use Rattle.schema.specs.Pick.{Picked, PickedItems, bare, items, slots, no_item, item, pick_items, pick, list_of}
use Rattle.fault.specs.Fault.{fault, before, lesser, least}
use Rattle.scalar.specs.Scalars as scalar
use Rattle.rings.specs.Rings.{Found, found_at, numbered, count, coordinate_kinds, number_kinds_in, position_kinds, point_of, position, no_kinds, all_sound, positions_found, ring_found, rings_found, item_total, polygons_found, coordinates_found}
use Rattle.rings.specs.inner.Parts.{ring_shape, position_shape}
use Rattle.fault.specs.declared.Fault.{Fault}

-- opens every definition of this layer
unfoldable pub ringing : Unit {0}
unfolding reading part_tree deciding holding written pick_items pick scalar.formed_kinds scalar.sort_kinds scalar.kinds_of found_at numbered list_of count coordinate_kinds number_kinds_in position_kinds point_of position no_kinds all_sound positions_found ring_found rings_found item_total polygons_found coordinates_found before lesser least
ringing = tt

-- what is found in the coordinates that a text spells: positions' numbers and kinds
abbrev found_in : Picked → List Found
found_in (bare x) = []
found_in (items is) = coordinates_found is
found_in (slots ss) = []

unfoldable found : String → List (ℕ × ℕ)
found s = map (λ f. (f.number, f.kind)) (found_in (pick coordinates (part_tree (bytes s))))

abbrev positions : List (Case String (List (ℕ × ℕ)))
positions =
    -- the second position's items, of which the first three are judged
    ("no item", "[[[[0,0],[],[2,2],[0,0]]]]", (2, 11) ∷ []) ∷
    ("one", "[[[[0,0],[0],[2,2],[0,0]]]]", (2, 11) ∷ []) ∷
    ("two, in a ring of as few positions as may be", "[[[[0,0],[0,2],[2,2],[0,0]]]]", []) ∷
    ("three, the third any number", "[[[[0,0],[0,2,9e99],[2,2],[0,0]]]]", []) ∷
    ("four, the fourth not judged", "[[[[0,0],[0,2,1,null],[2,2],[0,0]]]]", (2, 11) ∷ []) ∷
    ("one that is no number", "[[[[0,0],[null],[2,2],[0,0]]]]", (2, 11) ∷ (2, 7) ∷ []) ∷
    ("three, the third no number", "[[[[0,0],[0,2,null],[2,2],[0,0]]]]", (2, 7) ∷ []) ∷
    ("no array", "[[[[0,0],null,[2,2],[0,0]]]]", (2, 7) ∷ []) ∷
    -- lon and lat: form, range and type; range before rounding
    ("ends of the ranges", "[[[[-180,-90],[-180,90],[180,90.0],[-180,-90]]]]", []) ∷
    ("an exponent", "[[[[0,0],[1e1,2],[2,2],[0,0]]]]", (2, 8) ∷ []) ∷
    ("past the greatest lon", "[[[[0,0],[180.00000001,2],[2,2],[0,0]]]]", (2, 9) ∷ []) ∷
    ("past the greatest lat", "[[[[0,0],[2,90.00000001],[2,2],[0,0]]]]", (2, 9) ∷ []) ∷
    ("both wrong", "[[[[0,0],[181,[]],[2,2],[0,0]]]]", (2, 9) ∷ (2, 7) ∷ []) ∷
    []

positions-answered : Answers found positions
unfolding ringing found
positions-answered = refl

abbrev rings : List (Case String (List (ℕ × ℕ)))
rings =
    ("no polygon", "[]", []) ∷
    ("three positions, which have no area either", "[[[[0,0],[0,2],[0,0]]]]", (1, 11) ∷ (1, 11) ∷ []) ∷
    ("open", "[[[[0,0],[0,2],[2,2],[2,0]]]]", (1, 11) ∷ []) ∷
    ("open by a millionth", "[[[[0,0],[0,2],[2,2],[0.000001,0]]]]", (1, 11) ∷ []) ∷
    ("closed by rounding", "[[[[0,0],[0,2],[2,2],[0.0000004,-0.0000004]]]]", []) ∷
    ("closed by rounding up", "[[[[0.000001,0],[0,2],[2,2],[0.0000005,0]]]]", []) ∷
    ("closed at the end of the map", "[[[[179.9999995,0],[179,2],[178,2],[180,0]]]]", []) ∷
    ("opened by rounding", "[[[[0,0],[0,2],[2,2],[0.0000001,-0.0000009]]]]", (1, 11) ∷ []) ∷
    ("opened by half a millionth", "[[[[0,0],[0,2],[2,2],[0.0000005,0]]]]", (1, 11) ∷ []) ∷
    ("an area by rounding alone", "[[[[0,0],[0,0.0000005],[0.0000005,0.0000005],[0,0]]]]", []) ∷
    ("an area lost by rounding", "[[[[0,0.0000009],[1,0.000001],[2,0.0000009],[0,0.0000009]]]]", (1, 11) ∷ []) ∷
    ("past the map, and closed by rounding", "[[[[180.0000005,0],[179,2],[178,2],[180,0]]]]", (1, 9) ∷ []) ∷
    ("no area", "[[[[0,0],[1,1],[2,2],[0,0]]]]", (1, 11) ∷ []) ∷
    ("open, with a position that is not sound: nothing is asked of the whole", "[[[[0,0],[0,2],[2,2],[2,null]]]]", (4, 7) ∷ []) ∷
    ("polygons and rings that are no arrays take no number", "[7,[7],[[[0,0],[0,2],7,[0,0]]]]", (1, 7) ∷ (1, 7) ∷ (3, 7) ∷ []) ∷
    ("numbers go on over polygons", "[[[[0,0],[0,2],[2,2],[0,0]]],[[[0,0],[0,2,1,1],[2,2],[0,0]]]]", (6, 11) ∷ []) ∷
    []

rings-answered : Answers found rings
unfolding ringing found
rings-answered = refl

-- polygons of several rings, and of none
abbrev holes : List (Case String (List (ℕ × ℕ)))
holes =
    ("a second ring", "[[[[0,0],[0,9],[9,9],[0,0]],[[1,2],[1,3],[2,3],[1,2]]]]", []) ∷
    ("one that winds the other way", "[[[[0,0],[0,9],[9,9],[0,0]],[[1,2],[2,3],[1,3],[1,2]]]]", []) ∷
    ("the same twice", "[[[[0,0],[0,9],[9,9],[0,0]],[[0,0],[0,9],[9,9],[0,0]]]]", []) ∷
    ("a second of three positions", "[[[[0,0],[0,9],[9,9],[0,0]],[[1,2],[1,3],[1,2]]]]", (5, 11) ∷ (5, 11) ∷ []) ∷
    ("a second that is open", "[[[[0,0],[0,9],[9,9],[0,0]],[[1,2],[1,3],[2,3],[1,7]]]]", (5, 11) ∷ []) ∷
    ("a second without an area", "[[[[0,0],[0,9],[9,9],[0,0]],[[1,2],[1,3],[1,4],[1,2]]]]", (5, 11) ∷ []) ∷
    ("a second with a position that is not sound", "[[[[0,0],[0,9],[9,9],[0,0]],[[1,2],[1,91],[2,3],[1,2]]]]", (6, 9) ∷ []) ∷
    ("a second that is no array", "[[[[0,0],[0,9],[9,9],[0,0]],null]]", (5, 7) ∷ []) ∷
    ("the first open", "[[[[0,0],[0,9],[9,9],[0,1]],[[1,2],[1,3],[2,3],[1,2]]]]", (1, 11) ∷ []) ∷
    ("the second open in the second polygon", "[[[[0,0],[0,9],[9,9],[0,0]]],[[[0,0],[0,9],[9,9],[0,0]],[[1,2],[1,3],[2,3],[1,7]]]]", (9, 11) ∷ []) ∷
    ("no ring", "[[]]", (1, 11) ∷ []) ∷
    ("no ring, behind a polygon", "[[[[0,0],[0,9],[9,9],[0,0]]],[]]", (5, 11) ∷ []) ∷
    ("an empty ring takes no number", "[[[],[[0,91]]]]", (1, 11) ∷ (1, 11) ∷ (1, 11) ∷ (1, 9) ∷ []) ∷
    []

holes-answered : Answers found holes
unfolding ringing found
holes-answered = refl

-- Many positions, rings and polygons, and the first rule that they break.

unfoldable repeated : {A : Type 0} → ℕ → A → List A → List A
repeated zero x l = l
repeated (suc n) x l = x ∷ repeated n x l

unfoldable items_of : List Picked → PickedItems
items_of [] = no_item
items_of (x ∷ l) = item x (items_of l)

-- a position, a ring and a polygon; a triangle whose third corner is named n times
abbrev placed : String → Picked
placed s = pick position_shape (part_tree (bytes s))

abbrev ring : String → Picked
ring s = pick ring_shape (part_tree (bytes s))

abbrev polygon : List Picked → Picked
polygon rings = items (items_of rings)

abbrev triangle : ℕ → (first last : String) → Picked
triangle n first last = items (items_of (placed first ∷ placed "[0,2]" ∷ repeated n (placed "[2,2]") (placed last ∷ [])))

-- a ring that is sound, one that is no array, and a polygon of n sound rings and another
abbrev sound : Picked
sound = ring "[[0,0],[0,2],[2,2],[0,0]]"

abbrev no_array : Picked
no_array = ring "7"

abbrev ringed : ℕ → Picked → Picked
ringed n last = polygon (repeated n sound (last ∷ []))

-- seven polygons of two rings, with others behind them
abbrev fourteen : List Picked → List Picked
fourteen behind = repeated 7 (ringed 1 sound) behind

-- a fault of field 73 in the first record
abbrev At : (number kind : ℕ) → Option Fault
At number kind = Some (fault 1 73 number kind)

abbrev many : List (Case (List Picked) (Option Fault))
many =
    ("256 positions", polygon (triangle 253 "[0,0]" "[0,0]" ∷ []) ∷ [], None) ∷
    ("257", polygon (triangle 254 "[0,0]" "[0,0]" ∷ []) ∷ [], At 1 10) ∷
    ("and open, which comes later at the same number", polygon (triangle 254 "[0,0]" "[0,1]" ∷ []) ∷ [], At 1 10) ∷
    ("and a fault of the first position, which comes before", polygon (triangle 254 "[181,0]" "[0,0]" ∷ []) ∷ [], At 1 9) ∷
    ("256 positions in each of two rings", polygon (triangle 253 "[0,0]" "[0,0]" ∷ triangle 253 "[0,0]" "[0,0]" ∷ []) ∷ [], None) ∷
    ("257 in the second", polygon (triangle 253 "[0,0]" "[0,0]" ∷ triangle 254 "[0,0]" "[0,0]" ∷ []) ∷ [], At 257 10) ∷
    ("fifteen polygons", repeated 14 (ringed 0 sound) (ringed 0 sound ∷ []), None) ∷
    ("with a fault in the last", repeated 14 (ringed 0 sound) (ringed 0 no_array ∷ []), At 57 7) ∷
    ("sixteen, ahead of that fault", repeated 15 (ringed 0 sound) (ringed 0 no_array ∷ []), At 0 10) ∷
    ("fifteen without rings", repeated 15 (polygon []) [], At 1 11) ∷
    ("sixteen without rings", repeated 16 (polygon []) [], At 0 10) ∷
    ("eight rings", ringed 7 sound ∷ [], None) ∷
    ("the last no array", ringed 7 no_array ∷ [], At 29 7) ∷
    ("nine, the last no array, which counts", ringed 8 no_array ∷ [], At 1 11) ∷
    ("nine behind another polygon", ringed 0 sound ∷ ringed 8 no_array ∷ [], At 5 11) ∷
    ("nine that are no arrays", polygon (repeated 9 no_array []) ∷ [], At 1 7) ∷
    ("nine that are empty", polygon (repeated 9 (polygon []) []) ∷ [], At 1 11) ∷
    -- over several polygons: sixteen come ahead of every position; what is no array counts in a polygon as a ring, and a polygon that is none has no rings
    ("fifteen rings", fourteen (ringed 0 sound ∷ []), None) ∷
    ("the last no array", fourteen (ringed 0 no_array ∷ []), At 57 7) ∷
    ("sixteen", fourteen (ringed 1 sound ∷ []), At 0 10) ∷
    ("the last no array", fourteen (ringed 1 no_array ∷ []), At 0 10) ∷
    ("behind what is no polygon", no_array ∷ fourteen (ringed 1 no_array ∷ []), At 0 10) ∷
    ("fifteen behind what is none", no_array ∷ fourteen (ringed 0 no_array ∷ []), At 1 7) ∷
    []

many-answered : Answers (λ l. least (numbered 1 73 (coordinates_found (items_of l)))) many
unfolding ringing repeated items_of
many-answered = refl
