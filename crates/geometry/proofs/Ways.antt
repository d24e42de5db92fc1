-- The ways through the tests of one edge: moved coordinates are ordered as the true ones are, so each test of the code is one of the
-- definition's, and those that it leaves out do not matter.
use mathlib.Core.Bool.{false}
use mathlib.Core.Path.{◌≡◌}
use Prim.Native.Nat.{ℕ, ◌≤◌, ◌<◌}
use lib.IntN.{pos}
use lib.Signed.{lt_z}
use borrow.Author.Tests.{le-leb, lt-leb, lt-ltb, le-ltb}
use Rattle.notation.specs.Choice.{◌and◌}
use Rattle.signed.specs.inner.Difference.{difference}
use Rattle.signed.proofs.Gap.{difference_le, difference_lt}
use Rattle.geometry.specs.Ring.{equal}
use Rattle.geometry.specs.Held.{side, between, on_edge, crosses}
use Rattle.geometry.specs.inner.Shifted.{half_lat, half_lon, point}
use Rattle.geometry.specs.declared.Position.{Position}

between-moved : (a b c s : ℕ) → between (difference a s) (difference b s) (difference c s) ≡ between (pos a) (pos b) (pos c)
between-moved a b c s = simp difference_le

module _ (a b q : Position) where
  -- on the edge
  pub on-edge-tests : on_edge (point a) (point b) (point q)
      ≡ (equal (side (point a) (point b) (point q)) (pos 0) and between (pos a.lon) (pos b.lon) (pos q.lon) and between (pos a.lat) (pos b.lat) (pos q.lat))
  unfolding on_edge
  on-edge-tests = rw (between-moved a.lon b.lon q.lon half_lon, between-moved a.lat b.lat q.lat half_lat)

  -- across the parallel
  module _ (below : a.lat ≤ q.lat) where
    pub northward : q.lat < b.lat → lt_z (pos 0) (side (point a) (point b) (point q)) ≡ crosses (point a) (point b) (point q)
    unfolding crosses
    northward h = simp (difference_le, difference_lt, le-leb _ _ below, lt-ltb _ _ h)

    pub south_of : b.lat ≤ q.lat → false ≡ crosses (point a) (point b) (point q)
    unfolding crosses
    south_of h = simp (difference_le, difference_lt, le-leb _ _ below, le-ltb _ _ h, le-leb _ _ h, le-ltb _ _ below)

  module _ (above : q.lat < a.lat) where
    pub southward : b.lat ≤ q.lat → lt_z (side (point a) (point b) (point q)) (pos 0) ≡ crosses (point a) (point b) (point q)
    unfolding crosses
    southward h = simp (difference_le, difference_lt, lt-leb _ _ above, le-leb _ _ h, lt-ltb _ _ above)

    pub north-of : q.lat < b.lat → false ≡ crosses (point a) (point b) (point q)
    unfolding crosses
    north-of h = simp (difference_le, difference_lt, lt-leb _ _ above, lt-leb _ _ h)
