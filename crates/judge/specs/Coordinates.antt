-- What document 02's request W13 lets a reader count on, beyond the definition of a zone's faults: the word can say every position's number, and without
-- further rings the faults are those of before. `proofs/Coordinates` shows it.
use Rattle.std.specs.Prelude.{true, ◌≡◌, ℕ, ◌+◌, ◌*◌, ◌≤◌, ◌<◌, Some}
use mathlib.Core.List.{List, [], ◌∷◌, Memᴰ}
use Rattle.limits.specs.Ceilings as ceiling
use Rattle.schema.specs.Pick.{Picked, PickedItems, items, list_of, elements}
use Rattle.fault.specs.declared.Fault.{Fault}
use Rattle.fault.specs.Fault.{least}
use Rattle.rings.specs.Rings.{numbered, count, item_count, polygon_positions, item_total, are_zone_counts}
use Rattle.rings.specs.OneRing.{coordinates_of_one, OneRingAtMost}
use Rattle.fault.specs.declared.Place.{Place}
use Rattle.judge.specs.Faults.{coordinate_faults}
use Rattle.judge.specs.Bounds.{Fitting, greatest, fields}

-- no more polygons and rings than a zone may have, and no ring of more positions than it may have
pub record WithinCeilings (is : PickedItems) : Type 0 where
  pub counts : are_zone_counts (count is) (item_total (list_of is)) ≡ true
  pub positions : (polygon ring : Picked) → Memᴰ polygon (list_of is) → Memᴰ ring (elements polygon) → item_count ring ≤ ceiling.positions

-- the positions of polygons
unfoldable pub polygons_positions : List Picked → ℕ
polygons_positions [] = 0
polygons_positions (x ∷ l) = polygon_positions x + polygons_positions l

-- the number of the last position: they count from 1, over all rings of all polygons
abbrev pub last_number : PickedItems → ℕ
last_number is = polygons_positions (list_of is)

pub record Coordinates : Type 0 where
  -- the last position's number fits the word, and so does the next one, where a polygon without a ring would stand: 3,841 at most
  pub last_fits : (is : PickedItems) → WithinCeilings is → last_number is + 1 ≤ greatest
  -- sixteen full rings would go past it
  pub sixteen : greatest < (ceiling.zone_rings + 1) * ceiling.positions
  -- whatever a zone holds, its first fault fits the word
  pub first_fits : (p : Place) (field : ℕ) (is : PickedItems) (f : Fault) → p.«record» ≤ greatest → field ≤ fields
      → least (coordinate_faults p field (items is)) ≡ Some f → Fitting f
  -- where no polygon has more than one ring, the faults of before are found and no other
  pub one_ring : (p : Place) (field : ℕ) (is : PickedItems) → OneRingAtMost (list_of is) → coordinate_faults p field (items is) ≡ numbered p.«record» field (coordinates_of_one is)
