-- A ring taken point by point: what is kept of the points so far, and what the points that are left make of it. Each question of a whole ring is
-- asked of what is kept with the points that are left; with none left the code answers it.
use Rattle.std.specs.Prelude.{Bool, false, not, List, [], ◌∷◌, ◌≡◌, None, Some, is_none, unwrap_or, ℕ, ◌+◌, ◌*◌, ◌≤◌, ltb, ℤ, pos, ◌+ℤ◌}
use Rattle.std.specs.Option.{option_map_or}
use Rattle.std.specs.Int.Signed.{lt_z}
use Rattle.limits.specs.Ceilings.{positions}
use Rattle.notation.specs.Choice.{◌⇒◌else◌, ◌and◌}
use Rattle.geometry.specs.Ring.{Point, equal, area_sum, ends_at}
use Rattle.geometry.specs.Held.{on_edge, crosses, on_ring, odd}
use Rattle.geometry.specs.inner.Shifted.{OnMap, added, no_balance, origin, point, value}
use Rattle.geometry.specs.declared.Balance.{Balance}
use Rattle.geometry.specs.declared.Outline.{Outline}
use Rattle.geometry.specs.declared.Position.{Position}
use Rattle.geometry.specs.declared.Standing.{Standing}
use Rattle.geometry.specs.declared.Standing.TheVariants as standing

-- no point yet: the line of the area sum begins at the origin
abbrev pub no_outline : Outline
no_outline = record { count = 0; first = None; last = origin; area = no_balance }

abbrev pub is_empty : Outline → Bool
is_empty o = is_none o.first

-- one point more; past the ceiling no edge is added, since no ring of more positions is asked for its area
abbrev pub joined : Outline → Position → Outline
joined o p =
    record {
      count = o.count + 1;
      first = Some (unwrap_or o.first p);
      last = p;
      area = ltb o.count positions ⇒ added o.area o.last p else o.area;
    }

-- of at most k edges
pub record Room (s : Balance) (k : ℕ) : Type 0 where
  pub plus : s.plus ≤ k * 64_800_000_000_000_000
  pub minus : s.minus ≤ k * 64_800_000_000_000_000

-- what an outline's functions ask of it: its area sum is one of at most as many edges as a ring may have positions, and its last point is on the map
pub record Summed (o : Outline) : Type 0 where
  pub edges : ℕ
  pub taken : edges ≤ o.count
  pub few : edges ≤ positions
  pub room : Room o.area edges
  pub last : OnMap o.last

-- of an outline of points on the map: its first point, if there is one, is on the map too
pub record Sized (o : Outline) : Type 0 where
  pub summed : Summed o
  pub first : (a : Position) → o.first ≡ Some a → OnMap a

-- the area sum: what is kept, on to the origin, with the edges that are left
unfoldable pub area_from : Outline → List Point → ℤ
area_from o l = value (added o.area o.last origin) +ℤ area_sum (point o.last ∷ l)

abbrev pub clockwise_from : Outline → List Point → Bool
clockwise_from o l = lt_z (area_from o l) (pos 0)

-- the last point is the first again
unfoldable pub closes : List Point → Bool
closes [] = false
closes (a ∷ l) = ends_at a a l

unfoldable pub closes_from : Outline → List Point → Bool
closes_from o l = option_map_or (λ first. ends_at (point first) (point o.last) l) o.first (closes l)

unfoldable pub sound_from : Outline → List Point → Bool
sound_from o l = closes_from o l and not (equal (area_from o l) (pos 0))

-- the edge on to a point: no edge leads to the first one
abbrev pub edge_meets : Outline → Point → Point → Bool
edge_meets o p q = is_empty o ⇒ false else on_edge (point o.last) p q

abbrev pub edge_crosses : Outline → Point → Point → Bool
edge_crosses o p q = is_empty o ⇒ false else crosses (point o.last) p q

-- the edges that are left
unfoldable pub on_from : Outline → List Point → Point → Bool
on_from o l q = is_empty o ⇒ on_ring l q else on_ring (point o.last ∷ l) q

unfoldable pub odd_from : Outline → List Point → Point → Bool
odd_from o l q = is_empty o ⇒ odd l q else odd (point o.last ∷ l) q

-- whether a point off every edge is held by a polygon's rings once this one was asked too: the first of them holds its side, by the way round that it goes,
-- and a further one takes its inside away
abbrev pub held_by : (clockwise inside first held : Bool) → Bool
held_by clockwise inside first held = first ⇒ (clockwise ⇒ inside else not inside) else inside ⇒ false else held

-- where a point stands to them: p tells whether an odd number of the edges so far cross
unfoldable pub stands_from : Outline → (p first held : Bool) → List Point → Point → Standing
stands_from o p first held l q =
    on_from o l q ⇒ standing.Edge else standing.Is (held_by (clockwise_from o l) (p ⇒ not (odd_from o l q) else odd_from o l q) first held)
