-- Three edges that close have room, and the side for their value.
use native.Mathlib.Omega.{arith}
use Rattle.geometry.proofs.Added.{room-none, room-added, room_next, room_fits, side-added}
use Rattle.geometry.proofs.edge.side.Goals as goal

pub with-requires : goal.with-requires
with-requires c =
    let m = c.requires in
    room_fits (room-added m.0 m.1 (room-none c.none.ensures)) (omega arith)

pub with-requires-2 : goal.with-requires-2
with-requires-2 c =
    let m = c.requires in
    room_fits (room-added m.1 m.2 (room_next c.with.ensures m.0 m.1 (room-none c.none.ensures))) (omega arith)

pub with-requires-3 : goal.with-requires-3
with-requires-3 c =
    let m = c.requires in
    room_fits
    (room-added m.2 m.0
    (room_next c.with-2.ensures m.1 m.2
    (room_next c.with.ensures m.0 m.1 (room-none c.none.ensures))))
    (omega arith)

pub returns : goal.returns
returns c = rw (c.with-3.ensures, c.with-2.ensures, c.with.ensures, c.none.ensures) (side-added _ _ _)
