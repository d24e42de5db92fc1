-- `segments_in` walks over the segments. The loop's invariant: those that were read and those that are left are all, and there is a place for each.
use mathlib.Core.Path.{sym, subst}
use native.Mathlib.Omega.{arith}
use lib.ListN.{length-replicate}
use Rattle.walk.proofs.Left.{nearer, left-among}
use Rattle.quote.specs.inner.Clear.{ClearSegment}
use Rattle.quote.proofs.Segments.{reading-start, reading-end, reading_few, reading-place, reading-more}
use Rattle.quote.proofs.segment.segments_in.Goals as goal

pub loop-m-init : goal.loop-m-init
loop-m-init c = reading-start c.args.p.now c.requires _ (length-replicate 16 c.unfilled-none.result)

pub returns : goal.returns
returns c = reading-end _ c.loop-m.invariant c.pass_item.ensures c.in_default.is

pub invariant_of-result : goal.invariant_of-result
invariant_of-result c = record { few = reading_few _ c.loop-m.invariant c.pass_item.ensures }

pub segment_in-requires : goal.segment_in-requires
segment_in-requires c =
    subst ClearSegment (sym c.item_bytes.ensures)
    (c.requires.each _ (left-among c.loop-m.invariant.left c.pass_item.ensures c.in-Some.is))

pub bounds-list-count : goal.bounds-list-count
bounds-list-count c =
    reading-place _ c.loop-m.invariant c.pass_item.ensures c.in-Some.is

pub loop-m-preserved : goal.loop-m-preserved
loop-m-preserved c =
    rw (c.segment_in.ensures, c.item_bytes.ensures) (reading-more _ c.loop-m.invariant c.pass_item.ensures c.in-Some.is)

pub offset_bounds-list-count : goal.offset_bounds-list-count
offset_bounds-list-count c = omega (arith, reading-place _ c.loop-m.invariant c.pass_item.ensures c.in-Some.is)

pub overflow_add-count : goal.overflow_add-count
overflow_add-count c = omega (arith, reading-place _ c.loop-m.invariant c.pass_item.ensures c.in-Some.is)

pub loop-m-smaller : goal.loop-m-smaller
loop-m-smaller c = nearer c.pass_item.ensures c.in-Some.is
