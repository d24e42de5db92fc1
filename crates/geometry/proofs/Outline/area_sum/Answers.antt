-- One edge more leads back to the origin, and there is room for it.
use native.Mathlib.Omega.{arith}
use Rattle.geometry.proofs.Added.{room-added, room_fits, on-map-origin}
use Rattle.geometry.proofs.Outlines.{area_end}
use Rattle.geometry.proofs.Outline.area_sum.Goals as goal

pub with-requires : goal.with-requires
with-requires c =
    let s = c.requires in rw c.origin.ensures (room_fits (room-added s.last on-map-origin s.room) (omega (arith, s.few)))

pub returns : goal.returns
returns c = rw (c.with.ensures, c.origin.ensures) (area_end c.args.self)
