-- `judge_polygons` judges polygon after polygon. The loop's invariant: what is tallied so far, with the polygons that are left, is what is tallied of all.
use native.Mathlib.Omega.{arith}
use Rattle.walk.proofs.Left.{nearer}
use Rattle.rings.specs.Rings.{polygon, polygon_positions, item_count}
use Rattle.rings.specs.inner.Parts.{polygon_shape}
use Rattle.rings.proofs.Tallies.{tallying_start, tallying_end, tallying_number, tallying_countable, tallying_more}
use Rattle.rings.proofs.zone.judge_polygons.Goals as goal

pub loop-m-init : goal.loop-m-init
loop-m-init c = rw c.none-tally.ensures (tallying_start _ polygon item_count polygon_positions polygon_shape _ _)

pub returns : goal.returns
returns c =
    (tallying_end _ polygon item_count polygon_positions polygon_shape _ _ c.loop-m.invariant c.pass_item.ensures c.in_default.is).1

pub overflow_add-n : goal.overflow_add-n
overflow_add-n c =
    omega (arith, tallying_number _ polygon item_count polygon_positions polygon_shape _ _ c.loop-m.invariant c.pass_item.ensures c.in-Some.is c.requires)

pub judge_polygon-requires : goal.judge_polygon-requires
judge_polygon-requires c =
    rw c.item_bytes.ensures
    (tallying_number _ polygon item_count polygon_positions polygon_shape _ _ c.loop-m.invariant c.pass_item.ensures c.in-Some.is c.requires)

pub with-tally-requires : goal.with-tally-requires
with-tally-requires c =
    tallying_countable _ polygon item_count polygon_positions polygon_shape _ _ c.loop-m.invariant c.pass_item.ensures c.in-Some.is c.requires
    (rw c.item_bytes.ensures at c.judge_polygon.ensures)

pub loop-m-preserved : goal.loop-m-preserved
loop-m-preserved c =
    rw c.with-tally.ensures
    (tallying_more _ polygon item_count polygon_positions polygon_shape _ _ c.loop-m.invariant c.pass_item.ensures c.in-Some.is c.requires
    (rw c.item_bytes.ensures at c.judge_polygon.ensures))

pub loop-m-smaller : goal.loop-m-smaller
loop-m-smaller c = nearer c.pass_item.ensures c.in-Some.is
