-- `read_ring` takes position after position. The loop's invariant is `Reading`: what is found and kept so far, with the positions that are left, is what is
-- found in all of them and tells whether they are a ring.
use native.Mathlib.Omega.{arith}
use Rattle.walk.proofs.Left.{nearer}
use Rattle.rings.proofs.Tallies.{passed_within, passed_one}
use Rattle.rings.proofs.Points.{reading-start, reading-end, reading-more}
use Rattle.rings.proofs.ring.read_ring.Goals as goal

pub loop-m-init : goal.loop-m-init
loop-m-init c = rw c.none-outline.ensures (reading-start _ _ _)

pub returns : goal.returns
returns c = reading-end _ _ _ c.loop-m.invariant c.pass_item.ensures c.in_default.is

pub overflow_add-n : goal.overflow_add-n
overflow_add-n c =
    omega (arith, c.requires, passed_within c.loop-m.invariant.walked.passed)

pub with-outline-requires : goal.with-outline-requires
with-outline-requires c =
    let r = c.loop-m.invariant in (
      r.sized.summed,
      c.judge_position-position.ensures.0,
      omega (arith, c.requires, passed_one r.walked.passed (c.pass_item.ensures.placed _ c.in-Some.is)),
    )

pub loop-m-preserved : goal.loop-m-preserved
loop-m-preserved c =
    rw (c.with-outline.ensures, c.lesser-least.ensures)
    (reading-more _ _ _ c.loop-m.invariant c.pass_item.ensures c.in-Some.is c.judge_position-position.result c.judge_position-position.ensures.0
    (rw c.item_bytes.ensures at c.judge_position-position.ensures.1))

pub loop-m-smaller : goal.loop-m-smaller
loop-m-smaller c = nearer c.pass_item.ensures c.in-Some.is
