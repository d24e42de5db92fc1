-- `judge_named` walks over the ids of a rule. The loop's invariant: the least so far, with what the ids left break, makes the least of all; all ids
-- of a rule stand at one place, so any number serves for them.
use mathlib.Core.Path.{ap, ◌∙◌}
use Prim.Native.Nat.{◌+◌}
use native.Mathlib.Omega.{arith}
use Rattle.walk.proofs.Left.{nearer}
use Rattle.schema.specs.Tables.{sheet_of}
use Rattle.schema.specs.Records.{record_shape}
use Rattle.fault.specs.Fault.{least as least_of}
use Rattle.document.specs.inner.Items.{picked_items}
use Rattle.ids.specs.References.{refers as refers_to}
use Rattle.cross.proofs.Joined.{breaks}
use Rattle.cross.proofs.Walked.{judging-start, judging-end, judging-whole, judging-more}
use Rattle.cross.proofs.Fielded.{id_each, id_text}
use Rattle.cross.proofs.zones.judge_named.Goals as goal

pub loop-item-init : goal.loop-item-init
loop-item-init c = (0, judging-start _ _ _ c.requires.1)

pub returns : goal.returns
returns c = judging-end c.loop-item.invariant.1 c.pass_item.ensures c.in_default.is ∙ ap least_of (id_each _ _ _ 1 _)

pub slice_bounds-refers_in-count : goal.slice_bounds-refers_in-count
slice_bounds-refers_in-count c = let m = c.pass_item.ensures.placed _ c.in-Some.is in omega arith

pub slice_bounds-refers_in-start : goal.slice_bounds-refers_in-start
slice_bounds-refers_in-start c = let m = c.pass_item.ensures.placed _ c.in-Some.is in omega arith

pub slice_bounds-refers_in-end : goal.slice_bounds-refers_in-end
slice_bounds-refers_in-end c = let m = c.pass_item.ensures.placed _ c.in-Some.is in omega arith

pub loop-item-smaller : goal.loop-item-smaller
loop-item-smaller c = nearer c.pass_item.ensures c.in-Some.is

pub loop-item-preserved : goal.loop-item-preserved
loop-item-preserved c =
    let a = c.args in let w = c.loop-item.invariant.1 in let e = c.in-Some.is in let types = picked_items (record_shape (sheet_of a.table 1)) a.types.now in (
      c.loop-item.invariant.0 + 1,
      judging-more w c.pass_item.ensures e
          (breaks a.place 78 c.refers_in.result c.broken.ensures
          (c.refers_in.ensures ∙ ap (λ z. refers_to z 10 types) (id_text (judging-whole w c.pass_item.ensures e))))
          c.lesser-least.ensures,
    )
