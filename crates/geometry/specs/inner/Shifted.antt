-- Points as code holds them: naturals in millionths of a degree, moved up by half the range so that none is negative. Document 01's range of lon and lat
-- is their bound.
use Rattle.std.specs.Prelude.{Bool, false, List, ℕ, ◌+◌, ◌*◌, ◌^◌, ◌≤◌, ◌<◌, ℤ}
use Rattle.notation.specs.Choice.{◌⇒◌else◌}
use Rattle.signed.specs.inner.Difference.{difference}
use Rattle.geometry.specs.Ring.{Point}
use Rattle.geometry.specs.Held.{on_ring, odd, side_of}
use Rattle.geometry.specs.declared.Balance.{Balance}
use Rattle.geometry.specs.declared.Position.{Position}
use Rattle.geometry.specs.declared.Standing.{Standing}
use Rattle.geometry.specs.declared.Standing.TheVariants as standing

-- 180 and 90 degrees
abbrev pub half_lon : ℕ
half_lon = 180_000_000

abbrev pub half_lat : ℕ
half_lat = 90_000_000

-- the point of two moved coordinates
abbrev pub shifted : ℕ → ℕ → Point
shifted x y = record { lon = difference x half_lon; lat = difference y half_lat }

abbrev pub point : Position → Point
point p = shifted p.lon p.lat

-- lon 0 and lat 0
abbrev pub origin : Position
origin = record { lon = half_lon; lat = half_lat }

-- a number that may be negative: what is added less what is taken away
abbrev pub value : Balance → ℤ
value b = difference b.plus b.minus

abbrev pub no_balance : Balance
no_balance = record { plus = 0; minus = 0 }

-- with the edge from a to b: x·y' − x'·y of the moved coordinates
abbrev pub added : Balance → Position → Position → Balance
added s a b = record { plus = s.plus + a.lon * b.lat; minus = s.minus + b.lon * a.lat }

-- what a machine word has room for
pub record Fits (s : Balance) : Type 0 where
  pub plus : s.plus < 2 ^ 64
  pub minus : s.minus < 2 ^ 64

-- what lies in the range of lon and lat
pub record OnMap (p : Position) : Type 0 where
  pub east : p.lon ≤ 360_000_000
  pub north : p.lat ≤ 180_000_000

-- where a point stands to a polygon's rings once this one was asked too: an edge settles it; the first ring holds its side, and a further one takes its inside away
unfoldable pub stands : (first held : Bool) → List Point → Point → Standing
stands first held l q = on_ring l q ⇒ standing.Edge else standing.Is (first ⇒ side_of l q else odd l q ⇒ false else held)
