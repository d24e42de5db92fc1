-- Without further rings coordinates are judged as if no polygon could have one. Of no ring and of one the two rules on a polygon's count say the same; and a
-- zone has no more rings than polygons then, so the ceiling of its rings, which is no lower than that of its polygons, refuses nothing more.
use mathlib.Core.Bool.{Bool, true, false}
use mathlib.Core.List.Memᴰ
use mathlib.Core.List.{List, [], ◌∷◌, ◌++◌}
use mathlib.Core.Path.{◌≡◌, refl, ap, ap₂}
use Prim.Native.Nat.{ℕ, zero, suc, ◌+◌, ◌≤◌}
use native.Mathlib.Omega.{arith}
use lib.Dec.{eqb, leb}
use lib.ListN.{length}
use borrow.Author.Tests.{leb-true, le-leb}
use Rattle.limits.specs.Ceilings as ceiling
use Rattle.notation.specs.Choice.{◌and◌}
use Rattle.word.specs.Kinds.{too_many, bad_ring}
use Rattle.schema.specs.Pick.{Picked, PickedItems, bare, items, slots, list_of}
use Rattle.scalar.specs.Scalars.{unless}
use Rattle.rings.specs.Rings.{Found, found_at, count, rings_found, polygon, polygon_positions, item_count, item_total, is_ring_count, are_zone_counts, polygons_found, coordinates_found}
use Rattle.rings.specs.OneRing.{polygon_of_one, polygons_of_one, coordinates_of_one, OneRingAtMost}

-- of no ring and of one the rules agree
counts_agree : (m : ℕ) → m ≤ 1 → is_ring_count m ≡ eqb m 1
counts_agree zero h = refl
counts_agree (suc zero) h = refl
counts_agree (suc (suc m)) h = absurd (omega (arith, h))

polygon-one : (n : ℕ) (x : Picked) → item_count x ≤ 1 → polygon n x ≡ polygon_of_one n x
unfolding count
polygon-one n (items is) h = ap (λ (t : Bool). found_at n (unless t bad_ring) ++ rings_found n (list_of is)) (counts_agree (count is) h)
polygon-one n (bare x) h = refl
polygon-one n (slots ss) h = refl

polygons-one : (n : ℕ) (l : List Picked) → OneRingAtMost l → polygons_found n l ≡ polygons_of_one n l
unfolding polygons_found polygons_of_one
polygons-one n [] one = refl
polygons-one n (x ∷ l) one =
    ap₂ (λ (a b : List Found). a ++ b) (polygon-one n x (one x (Memᴰ.head refl))) (polygons-one (n + polygon_positions x) l (λ y i. one y (Memᴰ.tail i)))

rings-few : (l : List Picked) → OneRingAtMost l → item_total l ≤ length l
unfolding item_total
rings-few [] one = omega arith
rings-few (x ∷ l) one = omega (arith, one x (Memᴰ.head refl), rings-few l (λ y i. one y (Memᴰ.tail i)))

-- a zone with no more rings than polygons
zone-few : (m k : ℕ) → k ≤ m → are_zone_counts m k ≡ leb m ceiling.polygons
zone-few m k h = go (leb m ceiling.polygons) refl
  where
    go : (t : Bool) → leb m ceiling.polygons ≡ t → t and leb k ceiling.zone_rings ≡ t
    go true e = le-leb k ceiling.zone_rings (omega (arith, h, leb-true m ceiling.polygons e))
    go false e = refl

pub coordinates-one : (is : PickedItems) → OneRingAtMost (list_of is) → coordinates_found is ≡ coordinates_of_one is
unfolding coordinates_found coordinates_of_one count
coordinates-one is one =
    ap₂ (λ (t : Bool) (l : List Found). found_at 0 (unless t too_many) ++ l) (zone-few (length (list_of is)) (item_total (list_of is)) (rings-few (list_of is) one))
    (polygons-one 1 (list_of is) one)
