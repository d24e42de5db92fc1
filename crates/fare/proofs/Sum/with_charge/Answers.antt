-- The rate's size times the count is the size of the charge, and there is room for it.
use native.Mathlib.Omega.{arith}
use Rattle.fare.proofs.Bound.{charge-most}
use Rattle.fare.proofs.Sum.with_charge.Goals as goal

pub overflow_mul-size : goal.overflow_mul-size
overflow_mul-size c =
    let n = c.count_moments in
    omega (arith, charge-most c.args.s c.args.ride n.result c.requires.modest n.ensures)

pub with-requires : goal.with-requires
with-requires c =
    let n = c.count_moments in
    let r = c.requires.room in
    omega (arith, charge-most c.args.s c.args.ride n.result c.requires.modest n.ensures, r.added, r.taken)
