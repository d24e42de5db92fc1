-- What the code adds up, and its value. The moved coordinates give the same sum over any line that closes: so three points give their
-- side, and a line that starts and ends at the origin its area. Each edge adds at most a lon times a lat, so there is room for 284 edges.
use mathlib.Core.Path.{◌≡◌}
use Prim.Native.Nat.{ℕ, ◌+◌, ◌≤◌}
use native.Mathlib.Nat.{mul-le-mul}
use native.Mathlib.Omega.{arith}
use lib.IntN.{pos, ◌+ℤ◌}
use Rattle.signed.proofs.Gap.{gap, gap_pos, gap_same, gap_add, gap_minus, gap_mul}
use Rattle.geometry.specs.Ring.{turn}
use Rattle.geometry.specs.Held.{side}
use Rattle.geometry.specs.inner.Shifted.{Fits, OnMap, added, half_lat, half_lon, no_balance, origin, point, value}
use Rattle.geometry.specs.inner.Outline.{Room}
use Rattle.geometry.specs.declared.Balance.{Balance}
use Rattle.geometry.specs.declared.Position.{Position}

pub room-none : {s : Balance} → s ≡ no_balance → Room s 0
room-none e = rw e (record { plus = omega arith; minus = omega arith })

pub room-added : {s : Balance} {k : ℕ} {a b : Position} → OnMap a → OnMap b → Room s k → Room (added s a b) (k + 1)
room-added m n r =
    record { plus = omega (arith, mul-le-mul m.east n.north); minus = omega (arith, mul-le-mul n.east m.north) }

pub room_next : {s t : Balance} {k : ℕ} {a b : Position} → t ≡ added s a b → OnMap a → OnMap b → Room s k → Room t (k + 1)
room_next e m n r = rw e (room-added m n r)

pub room_fits : {s : Balance} {k : ℕ} → Room s k → k ≤ 284 → Fits s
room_fits r h = record { plus = omega arith; minus = omega arith }

pub on-map-origin : OnMap origin
on-map-origin = record { east = omega arith; north = omega arith }

-- the side of three points
pub side-added : (a b q : Position) → value (added (added (added no_balance a b) b q) q a) ≡ side (point a) (point b) (point q)
unfolding side
side-added a b q =
    let ax = gap a.lon half_lon in let ay = gap a.lat half_lat in
    let bx = gap b.lon half_lon in let by = gap b.lat half_lat in
    let qx = gap q.lon half_lon in let qy = gap q.lat half_lat in
    gap_same (gap _ _)
    (gap_minus (gap_mul (gap_minus bx ax) (gap_minus qy ay)) (gap_mul (gap_minus by ay) (gap_minus qx ax)))
    (omega arith)

-- a line that ends at the origin: no point yet, and one point more
pub area_none : value (added no_balance origin origin) ≡ pos 0
area_none = gap_same (gap _ _) (gap_pos 0) (omega arith)

pub area_added : (s : Balance) (a b : Position)
    → value (added s a origin) +ℤ turn (point a) (point b) ≡ value (added (added s a b) b origin)
unfolding turn
area_added s a b =
    gap_same
    (gap_add (gap _ _)
    (gap_minus (gap_mul (gap a.lon half_lon) (gap b.lat half_lat)) (gap_mul (gap b.lon half_lon) (gap a.lat half_lat))))
    (gap _ _) (omega arith)
