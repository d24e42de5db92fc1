-- Coordinates as they were judged before document 02's request W13, where a polygon has one ring; and those that have no further rings.
use mathlib.Core.List.{List, [], ◌∷◌, ◌++◌, Memᴰ}
use Rattle.std.specs.Prelude.{ℕ, ◌+◌, ◌≤◌, eqb, leb}
use Rattle.limits.specs.Ceilings.{polygons}
use Rattle.word.specs.Kinds.{wrong_type, too_many, bad_ring}
use Rattle.schema.specs.Pick.{Picked, PickedItems, bare, items, slots, list_of}
use Rattle.scalar.specs.Scalars.{unless}
use Rattle.rings.specs.Rings.{Found, found_at, count, rings_found, polygon_positions, item_count}

-- a polygon: one ring
abbrev pub polygon_of_one : ℕ → Picked → List Found
polygon_of_one n (items is) = found_at n (unless (eqb (count is) 1) bad_ring) ++ rings_found n (list_of is)
polygon_of_one n (bare x) = found_at n (wrong_type ∷ [])
polygon_of_one n (slots ss) = found_at n (wrong_type ∷ [])

unfoldable pub polygons_of_one : ℕ → List Picked → List Found
polygons_of_one n [] = []
polygons_of_one n (x ∷ l) = polygon_of_one n x ++ polygons_of_one (n + polygon_positions x) l

-- all of field 73, where it is an array: too many polygons stand at 0
unfoldable pub coordinates_of_one : PickedItems → List Found
coordinates_of_one is = found_at 0 (unless (leb (count is) polygons) too_many) ++ polygons_of_one 1 (list_of is)

-- none of these polygons has more than one ring; one that has none, or is no array, may be among them
abbrev pub OneRingAtMost : List Picked → Type 0
OneRingAtMost l = (polygon : Picked) → Memᴰ polygon l → item_count polygon ≤ 1
