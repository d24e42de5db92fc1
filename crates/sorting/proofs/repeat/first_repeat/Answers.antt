-- The number so far is that of the least record that repeats an id, among those at the places passed.
use Rattle.sorting.specs.Ids.{id_at}
use Rattle.sorting.proofs.Repeated.{least_start, least-next, least-end}
use native.Mathlib.Omega.{arith}
use Rattle.sorting.proofs.repeat.first_repeat.Goals as goal

pub loop-i-init : goal.loop-i-init
loop-i-init c =
    let q = c.args in (least_start (id_at q.p.now q.places.now) q.order.now c.requires.0, omega arith)

pub bounds-order-i : goal.bounds-order-i
bounds-order-i c = omega (arith, c.loop-i.invariant.1, c.loop-i-test.true)

pub loop-i-preserved : goal.loop-i-preserved
loop-i-preserved c =
    let q = c.args in let w = c.loop-i in (
      least-next (id_at q.p.now q.places.now) q.order.now c.requires.0 w.i w.first w.invariant.0 w.invariant.1 c.loop-i-test.true
          c.repeat_at.result c.lesser-first.result c.repeat_at.ensures c.lesser-first.ensures,
      omega arith,
    )

pub returns : goal.returns
returns c =
    let q = c.args in let w = c.loop-i in least-end (id_at q.p.now q.places.now) q.order.now c.requires.0 w.i w.first w.invariant.0 c.loop-i-test.false

pub offset_bounds-order-i : goal.offset_bounds-order-i
offset_bounds-order-i c = omega (arith, c.loop-i.invariant.1, c.loop-i-test.true)
