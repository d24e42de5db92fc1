-- `judge_zones` walks over the zones without reading them. The loop's invariant: the least so far, with what the zones left break, makes the least of all;
-- each zone takes a byte at least, so no number is past the bytes.
use mathlib.Core.Path.{sym, ap, subst, ◌∙◌}
use Prim.Native.Nat.{◌+◌}
use native.Mathlib.Omega.{arith}
use Rattle.walk.specs.Part.{Whole}
use Rattle.walk.proofs.Left.{nearer}
use Rattle.walk.proofs.Parts.{item_of}
use Rattle.schema.specs.Tables.{sheet_of}
use Rattle.schema.specs.Records.{record_shape}
use Rattle.schema.specs.Pick.{pick}
use Rattle.fault.specs.Fault.{least as least_of}
use Rattle.document.specs.inner.Items.{picked_items}
use Rattle.document.proofs.Sizes.{part-short}
use Rattle.cross.specs.Cross.{zone_faults}
use Rattle.cross.proofs.Walked.{judging-start, judging-end, judging-room, judging-among, judging-whole, judging-more}
use Rattle.cross.proofs.zones.judge_zones.Goals as goal

pub loop-item-init : goal.loop-item-init
loop-item-init c = judging-start _ _ _ c.requires.1.along

pub returns : goal.returns
returns c = judging-end c.loop-item.invariant c.pass_item.ensures c.in_default.is

pub overflow_add-n : goal.overflow_add-n
overflow_add-n c = omega (arith, judging-room c.loop-item.invariant c.pass_item.ensures c.in-Some.is, c.requires.1.short)

pub slice_bounds-judge_zone-count : goal.slice_bounds-judge_zone-count
slice_bounds-judge_zone-count c = let m = c.pass_item.ensures.placed _ c.in-Some.is in omega arith

pub slice_bounds-judge_zone-start : goal.slice_bounds-judge_zone-start
slice_bounds-judge_zone-start c = let m = c.pass_item.ensures.placed _ c.in-Some.is in omega arith

pub slice_bounds-judge_zone-end : goal.slice_bounds-judge_zone-end
slice_bounds-judge_zone-end c = let m = c.pass_item.ensures.placed _ c.in-Some.is in omega arith

-- the zone is whole
pub judge_zone-requires : goal.judge_zone-requires
judge_zone-requires c =
    let x = c.requires in let m = c.in-Some.item in
    (x.0, omega (arith, x.1.short, part-short c.args.p.now m.value m.value_end), judging-whole c.loop-item.invariant c.pass_item.ensures c.in-Some.is)

pub loop-item-smaller : goal.loop-item-smaller
loop-item-smaller c = nearer c.pass_item.ensures c.in-Some.is

pub loop-item-preserved : goal.loop-item-preserved
loop-item-preserved c =
    let a = c.args in let p = a.p.now in let m = c.in-Some.item in let e = c.in-Some.is in let l = c.loop-item in
    let faults = zone_faults (picked_items (record_shape (sheet_of a.table 1)) a.types.now) in
    let o = c.requires.1.objects m (judging-among l.invariant c.pass_item.ensures e) in
    judging-more l.invariant c.pass_item.ensures e
    (c.judge_zone.ensures o.0 (subst (Whole (item_of p m)) o.1 (judging-whole l.invariant c.pass_item.ensures e))
    ∙ ap (λ x. least_of (faults (l.n + 1) (pick (record_shape (sheet_of a.table 6)) x))) (sym o.1))
    c.lesser-least.ensures
