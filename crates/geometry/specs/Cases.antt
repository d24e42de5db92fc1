-- Cases, computed, where a rule of crossings, of holes or of soundness is easy to get wrong. Document 01's own reading (j) stands in the table of all of them.
use Rattle.std.specs.Prelude.{Bool, true, false, List, [], ◌∷◌, ◌≡◌, refl, ℕ, ◌*◌, pos, neg_ℤ}
use Rattle.notation.specs.Case.{Case, Answers}
use Rattle.signed.specs.inner.Difference.{difference}
use Rattle.geometry.specs.Ring.{Point, same_point, turn, area_sum, clockwise, ends_at, sound}
use Rattle.geometry.specs.inner.Shifted.{shifted}
use Rattle.geometry.specs.Held.{side, on_edge, crosses, on_ring, odd, side_of, holds, on_any, in_any, polygon_holds}

-- opens every definition of this layer
unfoldable pub holding : Unit {0}
unfolding same_point turn area_sum clockwise ends_at sound side on_edge crosses on_ring odd holds on_any in_any polygon_holds
holding = tt

-- a point in whole degrees: lon, lat; and one with a lon below 0
abbrev pub degrees : ℕ → ℕ → Point
degrees x y = record { lon = pos (x * 1_000_000); lat = pos (y * 1_000_000) }

abbrev west : ℕ → ℕ → Point
west x y = record { lon = neg_ℤ (pos (x * 1_000_000)); lat = pos (y * 1_000_000) }

-- a box from the west to the east and from the south to the north, clockwise; and the other way round
abbrev pub box : (w e s n : ℕ) → List Point
box w e s n = degrees w s ∷ degrees w n ∷ degrees e n ∷ degrees e s ∷ degrees w s ∷ []

abbrev pub backwards : (w e s n : ℕ) → List Point
backwards w e s n = degrees w s ∷ degrees e s ∷ degrees e n ∷ degrees w n ∷ degrees w s ∷ []

-- a square on its corner; and steps, with a horizontal edge from (2,2) to (4,2) between an edge above it and one below it
abbrev diamond : List Point
diamond = degrees 2 0 ∷ degrees 0 2 ∷ degrees 2 4 ∷ degrees 4 2 ∷ degrees 2 0 ∷ []

abbrev steps : List Point
steps = degrees 0 0 ∷ degrees 0 4 ∷ degrees 2 4 ∷ degrees 2 2 ∷ degrees 4 2 ∷ degrees 4 0 ∷ degrees 0 0 ∷ []

-- whether a ring holds a point
abbrev rings : List (Case (List Point × Point) Bool)
rings =
    ("on the parallel of the south edge, west of it", (box 0 2 0 2, west 1 0), false) ∷
    ("on that of the north edge, west of it", (box 0 2 0 2, west 1 2), false) ∷
    ("between them, west of the ring", (box 0 2 0 2, west 1 1), false) ∷
    ("on the parallel of the south edge, east of it", (box 0 2 0 2, degrees 3 0), false) ∷
    ("on that of the north edge, east of it", (box 0 2 0 2, degrees 3 2), false) ∷
    ("the corner where it begins", (box 0 2 0 2, degrees 0 0), true) ∷
    ("another corner", (box 0 2 0 2, degrees 2 0), true) ∷
    ("the middle of a horizontal edge", (box 0 2 0 2, degrees 1 2), true) ∷
    ("the corner where it begins, backwards", (backwards 0 2 0 2, degrees 0 0), true) ∷
    ("another corner, backwards", (backwards 0 2 0 2, degrees 2 0), true) ∷
    ("the middle of a horizontal edge, backwards", (backwards 0 2 0 2, degrees 1 2), true) ∷
    ("inside, with a corner to the east", (diamond, degrees 1 2), true) ∷
    ("that corner", (diamond, degrees 4 2), true) ∷
    ("the northern corner", (diamond, degrees 2 4), true) ∷
    ("the middle of a slanted edge", (diamond, degrees 3 3), true) ∷
    ("beyond that edge", (diamond, degrees 4 3), false) ∷
    ("inside, with an edge along the ray", (steps, degrees 1 2), true) ∷
    ("on that edge", (steps, degrees 3 2), true) ∷
    ("above it", (steps, degrees 3 3), false) ∷
    ("west of all, with that edge along the ray", (steps, west 1 2), false) ∷
    []

rings-answered : Answers (λ c. holds c.0 c.1) rings
unfolding holding
rings-answered = refl

-- whether an odd number of edges cross, on rays that pass corners of the diamond
abbrev corners : List (Case Point Bool)
corners =
    ("from inside out at a corner, which counts once", degrees 1 2, true) ∷
    ("from the other half", degrees 3 2, true) ∷
    ("from the west through two corners", west 1 2, false) ∷
    ("through the lowest, where both edges count", degrees 0 0, false) ∷
    ("through the highest, where none counts", degrees 0 4, false) ∷
    []

corners-answered : Answers (odd diamond) corners
unfolding holding
corners-answered = refl

-- Polygons of several rings: whether one holds a point. A hole and its like that goes the other way round; two holes that overlap; a hole outside the first
-- ring; one with an edge on that of the first; one as large as the first, of which the edge is left; and a first ring that holds its outside, with a hole out
-- there and one in its inside.
abbrev hole : List (List Point)
hole = box 0 8 0 8 ∷ box 2 6 2 6 ∷ []

abbrev hole_backwards : List (List Point)
hole_backwards = box 0 8 0 8 ∷ backwards 2 6 2 6 ∷ []

abbrev overlapping : List (List Point)
overlapping = box 0 8 0 8 ∷ box 2 6 2 6 ∷ box 4 7 4 7 ∷ []

abbrev apart : List (List Point)
apart = box 0 2 0 2 ∷ box 4 6 4 6 ∷ []

abbrev touching : List (List Point)
touching = box 0 8 0 8 ∷ box 0 2 2 4 ∷ []

abbrev emptied : List (List Point)
emptied = box 0 8 0 8 ∷ backwards 0 8 0 8 ∷ []

abbrev outer : List (List Point)
outer = backwards 0 8 0 8 ∷ box 10 12 0 2 ∷ box 2 6 2 6 ∷ []

abbrev polygons : List (Case (List (List Point) × Point) Bool)
polygons =
    ("beside a hole", (hole, degrees 1 1), true) ∷
    ("in it", (hole, degrees 4 4), false) ∷
    ("on its edge", (hole, degrees 2 4), true) ∷
    ("on its corner", (hole, degrees 6 6), true) ∷
    ("on the corner of the first ring", (hole, degrees 8 8), true) ∷
    ("outside the first ring", (hole, degrees 9 4), false) ∷
    ("beside a hole that goes backwards", (hole_backwards, degrees 1 1), true) ∷
    ("in it", (hole_backwards, degrees 4 4), false) ∷
    ("on its edge", (hole_backwards, degrees 2 4), true) ∷
    ("on its corner", (hole_backwards, degrees 6 6), true) ∷
    ("on the corner of the first ring", (hole_backwards, degrees 8 8), true) ∷
    ("outside the first ring", (hole_backwards, degrees 9 4), false) ∷
    ("in one of two holes", (overlapping, degrees 3 3), false) ∷
    ("in both", (overlapping, degrees 5 5), false) ∷
    ("on the edge of the second", (overlapping, degrees 6 7), true) ∷
    ("on the edge of the second, inside the first", (overlapping, degrees 4 5), true) ∷
    ("on the edge of the first, inside the second", (overlapping, degrees 6 5), true) ∷
    ("in neither", (overlapping, degrees 1 7), true) ∷
    ("in the first ring, the hole elsewhere", (apart, degrees 1 1), true) ∷
    ("in neither", (apart, degrees 3 3), false) ∷
    ("in the hole", (apart, degrees 5 5), false) ∷
    ("on the hole's edge", (apart, degrees 4 5), true) ∷
    ("where the edges of both lie", (touching, degrees 0 3), true) ∷
    ("in the hole beside it", (touching, degrees 1 3), false) ∷
    ("on the hole's other edge", (touching, degrees 2 3), true) ∷
    ("beyond the hole", (touching, degrees 3 3), true) ∷
    ("on the edge that is left", (emptied, degrees 0 4), true) ∷
    ("in the hole", (emptied, degrees 4 4), false) ∷
    ("outside", (emptied, degrees 9 4), false) ∷
    ("outside a ring that goes backwards", (outer, degrees 9 9), true) ∷
    ("in the hole out there", (outer, degrees 11 1), false) ∷
    ("on the edge of that hole", (outer, degrees 10 1), true) ∷
    ("inside the first ring", (outer, degrees 1 1), false) ∷
    ("on the edge of the hole in there", (outer, degrees 2 4), true) ∷
    ("in that hole", (outer, degrees 4 4), false) ∷
    ("no ring holds nothing", ([], degrees 0 0), false) ∷
    []

polygons-answered : Answers (λ c. polygon_holds side_of c.0 c.1) polygons
unfolding holding
polygons-answered = refl

abbrev soundness : List (Case (List Point) Bool)
soundness =
    ("clockwise", box 0 2 0 2, true) ∷
    ("backwards", backwards 0 2 0 2, true) ∷
    ("on its corner", diamond, true) ∷
    ("with steps", steps, true) ∷
    ("there and back", degrees 0 0 ∷ degrees 1 1 ∷ degrees 2 2 ∷ degrees 0 0 ∷ [], false) ∷
    ("crossed over, so that its halves cancel out", degrees 0 0 ∷ degrees 2 2 ∷ degrees 2 0 ∷ degrees 0 2 ∷ degrees 0 0 ∷ [], false) ∷
    ("open", degrees 0 0 ∷ degrees 0 2 ∷ degrees 2 2 ∷ degrees 2 0 ∷ [], false) ∷
    ("one point", degrees 0 0 ∷ [], false) ∷
    ("none", [], false) ∷
    []

soundness-answered : Answers sound soundness
unfolding holding
soundness-answered = refl

-- coordinates are kept moved up, so that the least are 0
lowest : shifted 0 0 ≡ record { lon = neg_ℤ (pos 180_000_000); lat = neg_ℤ (pos 90_000_000) }
unfolding difference
lowest = refl
