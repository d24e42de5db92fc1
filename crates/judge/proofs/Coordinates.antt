-- Each ring takes at most as many numbers as a ring may have positions, so all rings of a zone take at most fifteen times that; the first fault is told by
-- `Positions`, and the law of one ring is that of `rings`, with the judge's names.
use mathlib.Core.List.{List, [], ◌∷◌, Memᴰ}
use mathlib.Core.Path.{refl, ap}
use Prim.Native.Nat.{◌*◌, ◌≤◌}
use native.Mathlib.Omega.{arith}
use lib.Dec.{leb}
use lib.ListN.{length}
use borrow.Author.Tests.{leb-true}
use Rattle.limits.specs.Ceilings as ceiling
use Rattle.notation.proofs.Booleans.{and_right}
use Rattle.schema.specs.Pick.{Picked, list_of, elements}
use Rattle.rings.specs.Rings.{numbered, count, item_count, item_total, polygon_positions}
use Rattle.rings.proofs.OneRing.{coordinates-one}
use Rattle.judge.specs.Coordinates.{Coordinates, polygons_positions}
use Rattle.judge.proofs.Holds.{holds-is}
use Rattle.judge.proofs.Positions.{coordinates_fit}

rings-room : (l : List Picked) → ((x : Picked) → Memᴰ x l → item_count x ≤ ceiling.positions) → item_total l ≤ ceiling.positions * length l
unfolding item_total
rings-room [] few = omega arith
rings-room (x ∷ l) few = omega (arith, few x (Memᴰ.head refl), rings-room l (λ y i. few y (Memᴰ.tail i)))

polygon-room : (x : Picked) → ((r : Picked) → Memᴰ r (elements x) → item_count r ≤ ceiling.positions) → polygon_positions x ≤ ceiling.positions * item_count x
polygon-room x few = rings-room (elements x) few

polygons-room : (l : List Picked) → ((x r : Picked) → Memᴰ x l → Memᴰ r (elements x) → item_count r ≤ ceiling.positions)
    → polygons_positions l ≤ ceiling.positions * item_total l
unfolding polygons_positions item_total
polygons-room [] few = omega arith
polygons-room (x ∷ l) few =
    omega (arith, polygon-room x (λ r i. few x r (Memᴰ.head refl) i), polygons-room l (λ y r i j. few y r (Memᴰ.tail i) j))

pub coordinates : Coordinates
coordinates =
    record {
      last_fits =
          λ is w.
          let l = list_of is in
          let most : item_total l ≤ ceiling.zone_rings =
          leb-true (item_total l) ceiling.zone_rings (and_right (leb (count is) ceiling.polygons) _ w.counts) in
          omega (arith, polygons-room l w.positions);
      sixteen = omega arith;
      first_fits = λ p field is f fits known e. holds-is (coordinates_fit p field fits known is) e;
      one_ring = λ p field is one. ap (numbered p.«record» field) (coordinates-one is one);
    }
