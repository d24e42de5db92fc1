-- Which points a ring holds, and which a polygon of several: document 01, "Zones", with document 02's request W13.
use Rattle.std.specs.Prelude.{Bool, true, false, not, List, [], ◌∷◌, ℤ, pos, ◌-ℤ◌, ◌*ℤ◌}
use Rattle.std.specs.Int.Signed.{le_z, lt_z}
use Rattle.notation.specs.Choice.{◌⇒◌else◌, ◌and◌}
use Rattle.geometry.specs.Ring.{Point, equal, clockwise}

-- on which side of the line from a to b the point q lies: above 0 to the left of it, 0 on it, below 0 to the right
unfoldable pub side : Point → Point → Point → ℤ
side a b q = (b.lon -ℤ a.lon) *ℤ (q.lat -ℤ a.lat) -ℤ (b.lat -ℤ a.lat) *ℤ (q.lon -ℤ a.lon)

-- c lies between a and b, ends included, whichever is the greater
abbrev pub between : ℤ → ℤ → ℤ → Bool
between a b c = le_z a b ⇒ le_z a c and le_z c b else le_z b c and le_z c a

-- the edge from a to b has q on it
unfoldable pub on_edge : Point → Point → Point → Bool
on_edge a b q =
    equal (side a b q) (pos 0) and between a.lon b.lon q.lon and between a.lat b.lat q.lat

-- The edge from a to b crosses the parallel of q strictly east of q: one end's lat is at most q's, the other's greater, and q is west of
-- the edge, to its left where it goes north and to its right where it goes south.
unfoldable pub crosses : Point → Point → Point → Bool
crosses a b q =
    le_z a.lat q.lat and lt_z q.lat b.lat ⇒ lt_z (pos 0) (side a b q) else
    le_z b.lat q.lat and lt_z q.lat a.lat ⇒ lt_z (side a b q) (pos 0) else false

-- q is on some edge; an odd number of edges cross
unfoldable pub on_ring : List Point → Point → Bool
on_ring [] q = false
on_ring (a ∷ []) q = false
on_ring (a ∷ b ∷ l) q = on_edge a b q ⇒ true else on_ring (b ∷ l) q

unfoldable pub odd : List Point → Point → Bool
odd [] q = false
odd (a ∷ []) q = false
odd (a ∷ b ∷ l) q = crosses a b q ⇒ not (odd (b ∷ l) q) else odd (b ∷ l) q

-- beyond its edges a ring holds its inside where it is clockwise, and its outside where it is not
abbrev pub side_of : List Point → Point → Bool
side_of l q = clockwise l ⇒ odd l q else not (odd l q)

-- a ring holds its edges, and beyond them its side
unfoldable pub holds : List Point → Point → Bool
holds l q = on_ring l q ⇒ true else side_of l q

-- several rings: q is on an edge of one; an odd number of the edges of one cross
unfoldable pub on_any : List (List Point) → Point → Bool
on_any [] q = false
on_any (r ∷ rs) q = on_ring r q ⇒ true else on_any rs q

unfoldable pub in_any : List (List Point) → Point → Bool
in_any [] q = false
in_any (r ∷ rs) q = odd r q ⇒ true else in_any rs q

-- A polygon holds the edges of all its rings, first of all; beyond them nothing that is inside a further ring, whichever way round that goes; and of the rest
-- what is on the side of its first ring.
unfoldable pub polygon_holds : (first_side : List Point → Point → Bool) → List (List Point) → Point → Bool
polygon_holds first_side [] q = false
polygon_holds first_side (r ∷ rs) q = on_any (r ∷ rs) q ⇒ true else in_any rs q ⇒ false else first_side r q
