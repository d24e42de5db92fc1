-- Field 73 as code meets it: the items of an array one after the other, each judged by its own bytes, and what each function tells of them.
use Rattle.std.specs.Prelude.{Bool, true, List, [], ◌∷◌, ◌++◌, map, ◌≡◌, ℕ, ◌+◌, ◌*◌, ◌^◌, ◌≤◌, ◌<◌, eqb, leb, length, Option, None, Some}
use Rattle.limits.specs.Ceilings as ceiling
use Rattle.notation.specs.Choice.{◌⇒◌else◌, ◌and◌}
use Rattle.word.specs.Kinds.{wrong_type, bad_ring}
use Rattle.signed.specs.inner.Difference.{difference}
use Rattle.json_text.specs.Tree as tree
use Rattle.walk.specs.declared.ValueKind.{ValueKind}
use Rattle.walk.specs.Part.{Whole}
use Rattle.decimal.specs.Decimals.{number_of}
use Rattle.decimal.specs.Exact.{in_range}
use Rattle.geometry.specs.Ring.{Point, sound}
use Rattle.geometry.specs.inner.Shifted.{point}
use Rattle.geometry.specs.inner.Outline.{Sized, sound_from}
use Rattle.schema.specs.Shape as shape
use Rattle.schema.specs.Shape.{Shape}
use Rattle.schema.specs.Pick.{Picked, bare, items, slots}
use Rattle.document.specs.inner.Values.{kind_code}
use Rattle.scalar.specs.Scalars.{unless, formed_kinds}
use Rattle.fault.specs.Fault.{fault, lesser, least}
use Rattle.rings.specs.Rings.{Found, found_at, numbered, coordinate, coordinate_kinds, number_kinds_in, point_of, position, all_sound, positions_found, ring_found}
use Rattle.rings.specs.declared.Field.{Field}
use Rattle.rings.specs.declared.CoordinateFound.{CoordinateFound}
use Rattle.rings.specs.declared.PositionFound.{PositionFound}
use Rattle.rings.specs.declared.RingFound.{RingFound}
use Rattle.rings.specs.declared.Judged.{Judged}
use Rattle.rings.specs.declared.Tally.{Tally}
use Rattle.fault.specs.declared.Fault.{Fault}

-- a fault at a position's number, and the first of what is found
abbrev pub fault_at : Field → (number kind : ℕ) → Option Fault
fault_at q number kind = Some (fault q.«record» q.field number kind)

abbrev pub least_found : Field → List Found → Option Fault
least_found q l = least (numbered q.«record» q.field l)

-- the shapes inside field 73
abbrev pub number_shape : Shape
number_shape = shape.scalar shape.any_number

abbrev pub position_shape : Shape
position_shape = shape.array shape.positions 3 number_shape

abbrev pub ring_shape : Shape
ring_shape = shape.array shape.positions ceiling.positions position_shape

abbrev pub polygon_shape : Shape
polygon_shape = shape.array shape.positions ceiling.rings ring_shape

-- p is an array, whole; or there is nothing
pub record Listing (p : List ℕ) : Type 0 where
  pub whole : 0 < length p → (is : tree.Items) × Whole p (tree.array is)

-- what a value's kind is asked for
abbrev pub is_array : ValueKind → Bool
is_array k = eqb (kind_code k) 4

abbrev pub is_number : ValueKind → Bool
is_number k = eqb (kind_code k) 2

-- a number from -k to k
abbrev pub range_kinds : ℕ → Picked → List ℕ
range_kinds k (bare tree.null) = wrong_type ∷ []
range_kinds k (bare (tree.boolean b)) = wrong_type ∷ []
range_kinds k (bare (tree.number s)) = formed_kinds (in_range k) (number_of s)
range_kinds k (bare (tree.string s)) = wrong_type ∷ []
range_kinds k (bare (tree.array is)) = wrong_type ∷ []
range_kinds k (bare (tree.object ms)) = wrong_type ∷ []
range_kinds k (items is) = wrong_type ∷ []
range_kinds k (slots ss) = wrong_type ∷ []

-- where it is sound, its millionths, moved up by k degrees
pub record FindsCoordinate (q : Field) (k n : ℕ) (x : Picked) (o : CoordinateFound) : Type 0 where
  pub least : o.least ≡ least_found q (found_at n (range_kinds k x))
  pub value : o.least ≡ None → difference o.value (k * 1_000_000) ≡ coordinate x

-- the items of a position; and those behind lon and lat
unfoldable pub list_kinds : List Picked → List ℕ
list_kinds l = unless (leb 2 (length l) and leb (length l) 3) bad_ring ++ number_kinds_in l

unfoldable pub rest_kinds : List Picked → List ℕ
rest_kinds [] = []
rest_kinds (z ∷ []) = coordinate_kinds shape.any_number z
rest_kinds (z ∷ w ∷ l) = bad_ring ∷ coordinate_kinds shape.any_number z

-- a position at the number n: its kinds, and where it is sound its point
pub record FindsPosition (q : Field) (n : ℕ) (kinds : List ℕ) (at : Point) (s : PositionFound) : Type 0 where
  pub least : s.least ≡ least_found q (found_at n kinds)
  pub point : s.least ≡ None → point s.point ≡ at

-- the items of a position, by themselves
abbrev pub FindsNumbers : Field → ℕ → List Picked → PositionFound → Type 0
FindsNumbers q n l r = FindsPosition q n (list_kinds l) (point_of l) r

-- an item of a polygon or of the coordinates in which that much is found
abbrev pub judged_of : Field → List Found → (m n : ℕ) → Judged
judged_of q found m n = record { items = m; positions = n; least = least_found q found }

-- the positions of a ring
abbrev pub ring_judged : Field → ℕ → List Picked → Judged
ring_judged q n l = judged_of q (ring_found n l) (length l) (length l)

-- what c counts in each of several items, added up
unfoldable pub sum_over : (Picked → ℕ) → List Picked → ℕ
sum_over c [] = 0
sum_over c (x ∷ l) = c x + sum_over c l

-- several items one after the other, numbered: e tells what is found in one, and c how many positions it has
unfoldable pub found_in : (ℕ → Picked → List Found) → (Picked → ℕ) → ℕ → List Picked → List Found
found_in e c n [] = []
found_in e c n (x ∷ l) = e n x ++ found_in e c (n + c x) l

-- several items, counted and judged: d tells how many items one has
abbrev pub tally_of : Field → (ℕ → Picked → List Found) → (d c : Picked → ℕ) → ℕ → List Picked → Tally
tally_of q e d c n l = record { count = length l; items = sum_over d l; positions = sum_over c l; least = least_found q (found_in e c n l) }

abbrev pub no_tally : Tally
no_tally = record { count = 0; items = 0; positions = 0; least = None }

-- with one more item
abbrev pub tallied : Tally → Judged → Tally
tallied t j =
    record {
      count = t.count + 1;
      items = t.items + j.items;
      positions = t.positions + j.positions;
      least = lesser t.least j.least;
    }

pub record Countable (t : Tally) : Type 0 where
  pub count : t.count < 2 ^ 32
  pub items : t.items < 2 ^ 32
  pub positions : t.positions < 2 ^ 32

-- what is counted in any bytes: no more than there are bytes
pub record Within (bytes : ℕ) (r : Judged) : Type 0 where
  pub items : r.items ≤ bytes
  pub positions : r.positions ≤ bytes

pub record TallyWithin (bytes : ℕ) (t : Tally) : Type 0 where
  pub count : t.count ≤ bytes
  pub positions : t.positions ≤ bytes

-- the positions of a ring, the first with the number n; where all are sound and not too many, whether the ring is
pub record RingRead (q : Field) (n : ℕ) (l : List Picked) (r : RingFound) : Type 0 where
  pub count : r.outline.count ≡ length l
  pub least : r.least ≡ least_found q (positions_found n l)
  pub sound : all_sound l ≡ true → length l ≤ ceiling.positions → sound_from r.outline [] ≡ sound (map position l)

-- what is read of any bytes: no more positions than bytes, and each on the map
pub record RingRoom (bytes : ℕ) (r : RingFound) : Type 0 where
  pub within : r.outline.count ≤ bytes
  pub sized : Sized r.outline

-- what the code asks of a ring that it has read: kind 11 where all positions are sound, not too many, and the ring is not sound
abbrev pub only_sound : Option Fault → Option Fault → Option Fault
only_sound None x = x
only_sound (Some f) x = None

unfoldable pub area_least : Field → ℕ → RingFound → Option Fault
area_least q n r =
    only_sound r.least
    (leb r.outline.count ceiling.positions ⇒ least_found q (found_at n (unless (sound_from r.outline []) bad_ring)) else None)
