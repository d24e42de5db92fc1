-- Field 73, coordinates: document 01's rules on polygons, rings and positions, with the numbers that positions count over the whole zone; how many rings
-- a polygon and a zone may have is document 02's request W13.
use Rattle.std.specs.Prelude.{Bool, true, false, List, [], ◌∷◌, ◌++◌, map, ℕ, ◌+◌, leb, length, ℤ, pos, Option, Some, None}
use Rattle.limits.specs.Ceilings.{polygons, rings, zone_rings, positions}
use Rattle.notation.specs.Choice.{◌⇒◌else◌, ◌and◌}
use Rattle.word.specs.Kinds.{wrong_type, too_many, bad_ring}
use Rattle.decimal.specs.Decimals.{number_of}
use Rattle.decimal.specs.Exact.{millionths}
use Rattle.geometry.specs.Ring.{Point, sound}
use Rattle.schema.specs.Shape as sort
use Rattle.schema.specs.Pick.{Picked, PickedItems, bare, items, slots, list_of, elements, by_value}
use Rattle.fault.specs.declared.Fault.{Fault}
use Rattle.fault.specs.Fault.{fault}
use Rattle.scalar.specs.Scalars.{unless, kinds_of}
use Rattle.decimal.specs.declared.Decimal.{Decimal}

-- what is found at a position's number: its kind
pub record Found : Type 0 where
  pub number : ℕ
  pub kind : ℕ

unfoldable pub found_at : ℕ → List ℕ → List Found
found_at n [] = []
found_at n (k ∷ ks) = record { number = n; kind = k } ∷ found_at n ks

-- faults of a field, each at its position's number
unfoldable pub numbered : (rec field : ℕ) → List Found → List Fault
numbered rec field [] = []
numbered rec field (x ∷ l) = fault rec field x.number x.kind ∷ numbered rec field l

-- how many items
unfoldable pub count : PickedItems → ℕ
count is = length (list_of is)

-- the kinds of the numbers of a position: lon, lat and any third number; what comes after them is not judged
unfoldable pub coordinate_kinds : sort.Sort → Picked → List ℕ
coordinate_kinds σ (bare x) = kinds_of σ x
coordinate_kinds σ (items is) = wrong_type ∷ []
coordinate_kinds σ (slots ss) = wrong_type ∷ []

unfoldable pub number_kinds_in : List Picked → List ℕ
number_kinds_in [] = []
number_kinds_in (x ∷ []) = coordinate_kinds sort.longitude x
number_kinds_in (x ∷ y ∷ []) = coordinate_kinds sort.longitude x ++ coordinate_kinds sort.latitude y
number_kinds_in (x ∷ y ∷ z ∷ rest) =
    coordinate_kinds sort.longitude x ++ coordinate_kinds sort.latitude y ++ coordinate_kinds sort.any_number z

-- a position: an array of two or three numbers
unfoldable pub position_kinds : Picked → List ℕ
position_kinds (items is) = unless (leb 2 (count is) and leb (count is) 3) bad_ring ++ number_kinds_in (list_of is)
position_kinds (bare x) = wrong_type ∷ []
position_kinds (slots ss) = wrong_type ∷ []

-- the point of a sound position; the origin stands in for one that is not sound, and is never looked at
abbrev pub in_millionths : Option Decimal → ℤ
in_millionths (Some d) = millionths d
in_millionths None = pos 0

abbrev pub coordinate : Picked → ℤ
coordinate x = by_value (λ b. pos 0) (λ s. in_millionths (number_of s)) (λ s. pos 0) (pos 0) x

unfoldable pub point_of : List Picked → Point
point_of [] = record { lon = pos 0; lat = pos 0 }
point_of (x ∷ []) = record { lon = coordinate x; lat = pos 0 }
point_of (x ∷ y ∷ rest) = record { lon = coordinate x; lat = coordinate y }

unfoldable pub position : Picked → Point
position x = point_of (elements x)

-- no kinds at all
unfoldable pub no_kinds : List ℕ → Bool
no_kinds [] = true
no_kinds (k ∷ ks) = false

unfoldable pub all_sound : List Picked → Bool
all_sound [] = true
all_sound (x ∷ l) = no_kinds (position_kinds x) and all_sound l

-- the positions of a ring, each with its number: the first has the number n
unfoldable pub positions_found : ℕ → List Picked → List Found
positions_found n [] = []
positions_found n (x ∷ l) = found_at n (position_kinds x) ++ positions_found (n + 1) l

-- a ring whose first position has the number n; faults of the whole ring stand there
unfoldable pub ring_found : ℕ → List Picked → List Found
ring_found n l =
    found_at n (unless (leb 4 (length l)) bad_ring) ++
    found_at n (unless (leb (length l) positions) too_many) ++
    positions_found n l ++
    -- first equals last, and the area sum is not zero
    (all_sound l ⇒ found_at n (unless (sound (map position l)) bad_ring) else [])

-- how many items an array has, and arrays have in all: the positions of a ring and of rings, the rings of a polygon and of polygons
abbrev pub item_count : Picked → ℕ
item_count x = length (elements x)

unfoldable pub item_total : List Picked → ℕ
item_total [] = 0
item_total (x ∷ l) = item_count x + item_total l

-- an item of a polygon
abbrev pub ring : ℕ → Picked → List Found
ring n (items is) = ring_found n (list_of is)
ring n (bare x) = found_at n (wrong_type ∷ [])
ring n (slots ss) = found_at n (wrong_type ∷ [])

unfoldable pub rings_found : ℕ → List Picked → List Found
rings_found n [] = []
rings_found n (x ∷ l) = ring n x ++ rings_found (n + item_count x) l

-- how many rings a polygon may have
abbrev pub is_ring_count : ℕ → Bool
is_ring_count m = leb 1 m and leb m rings

-- a polygon: rings, one at least
abbrev pub polygon : ℕ → Picked → List Found
polygon n (items is) = found_at n (unless (is_ring_count (count is)) bad_ring) ++ rings_found n (list_of is)
polygon n (bare x) = found_at n (wrong_type ∷ [])
polygon n (slots ss) = found_at n (wrong_type ∷ [])

abbrev pub polygon_positions : Picked → ℕ
polygon_positions x = item_total (elements x)

unfoldable pub polygons_found : ℕ → List Picked → List Found
polygons_found n [] = []
polygons_found n (x ∷ l) = polygon n x ++ polygons_found (n + polygon_positions x) l

-- how many polygons a zone may have, and how many rings over all of them
abbrev pub are_zone_counts : (m k : ℕ) → Bool
are_zone_counts m k = leb m polygons and leb k zone_rings

-- all of field 73, where it is an array: too many polygons stand at 0, and so do too many rings
unfoldable pub coordinates_found : PickedItems → List Found
coordinates_found is = found_at 0 (unless (are_zone_counts (count is) (item_total (list_of is))) too_many) ++ polygons_found 1 (list_of is)
