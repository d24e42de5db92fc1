-- The sum is a natural, and fits: so it is cast as it is.
use native.Mathlib.Omega.{arith}
use mathlib.Core.Path.{◌≡◌}
use mir.Syntax.{w64}
use mir.Val.{of_z, to_z}
use mir.ValLaws.{to_z-of_z, to_z_pos}
use lib.IntN.{pos, ◌+ℤ◌}
use Rattle.zone.proofs.Raising.{Raised, raise}
use Rattle.zone.proofs.point.raised.Goals as goal

-- the number that is reached
pub overflow_add-result : goal.overflow_add-result
overflow_add-result c =
    let a = c.args in let r : Raised a.v a.half c.requires.1 c.requires.2 = raise a.v a.half c.requires.1 c.requires.2 in
    let added : to_z w64 (of_z w64 a.v) +ℤ to_z w64 a.half ≡ pos r.to = rw (to_z-of_z w64 a.v c.ranges.v, to_z_pos w64 a.half (omega arith)) r.added in
    rw added (record { sfits = omega arith })

pub overflow_cast-result-2 : goal.overflow_cast-result-2
overflow_cast-result-2 c =
    let a = c.args in let r : Raised a.v a.half c.requires.1 c.requires.2 = raise a.v a.half c.requires.1 c.requires.2 in
    let added : to_z w64 (of_z w64 a.v) +ℤ to_z w64 a.half ≡ pos r.to = rw (to_z-of_z w64 a.v c.ranges.v, to_z_pos w64 a.half (omega arith)) r.added in
    rw (added, to_z_pos w64 r.to (omega arith)) (tt, record { fits = omega arith })

pub returns : goal.returns
returns c =
    let a = c.args in let r : Raised a.v a.half c.requires.1 c.requires.2 = raise a.v a.half c.requires.1 c.requires.2 in
    let added : to_z w64 (of_z w64 a.v) +ℤ to_z w64 a.half ≡ pos r.to = rw (to_z-of_z w64 a.v c.ranges.v, to_z_pos w64 a.half (omega arith)) r.added in
    rw (added, to_z_pos w64 r.to (omega arith)) r.back
