-- `judge_rings` judges ring after ring. The loop's invariant: what is tallied so far, with the rings that are left, is what is tallied of all.
use native.Mathlib.Omega.{arith}
use Rattle.walk.proofs.Left.{nearer}
use Rattle.rings.specs.Rings.{ring, item_count}
use Rattle.rings.specs.inner.Parts.{ring_shape}
use Rattle.rings.proofs.Tallies.{tallying_start, tallying_end, tallying_number, tallying_countable, tallying_more}
use Rattle.rings.proofs.zone.judge_rings.Goals as goal

pub loop-m-init : goal.loop-m-init
loop-m-init c = rw c.none-tally.ensures (tallying_start _ ring item_count item_count ring_shape _ _)

pub returns : goal.returns
returns c =
    tallying_end _ ring item_count item_count ring_shape _ _ c.loop-m.invariant c.pass_item.ensures c.in_default.is

pub overflow_add-n : goal.overflow_add-n
overflow_add-n c =
    omega (arith, tallying_number _ ring item_count item_count ring_shape _ _ c.loop-m.invariant c.pass_item.ensures c.in-Some.is c.requires)

pub judge_ring-requires : goal.judge_ring-requires
judge_ring-requires c =
    rw c.item_bytes.ensures
    (tallying_number _ ring item_count item_count ring_shape _ _ c.loop-m.invariant c.pass_item.ensures c.in-Some.is c.requires)

pub with-tally-requires : goal.with-tally-requires
with-tally-requires c =
    tallying_countable _ ring item_count item_count ring_shape _ _ c.loop-m.invariant c.pass_item.ensures c.in-Some.is c.requires
    (rw c.item_bytes.ensures at c.judge_ring.ensures)

pub loop-m-preserved : goal.loop-m-preserved
loop-m-preserved c =
    rw c.with-tally.ensures
    (tallying_more _ ring item_count item_count ring_shape _ _ c.loop-m.invariant c.pass_item.ensures c.in-Some.is c.requires
    (rw c.item_bytes.ensures at c.judge_ring.ensures))

pub loop-m-smaller : goal.loop-m-smaller
loop-m-smaller c = nearer c.pass_item.ensures c.in-Some.is
