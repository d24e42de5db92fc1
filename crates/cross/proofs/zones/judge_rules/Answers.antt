-- `judge_rules` walks over the rules of a zone. The loop's invariant: the least so far, with what the rules left break, makes the least of all;
-- each rule takes a byte at least, so no number is past the bytes.
use mathlib.Core.List.{List}
use mathlib.Core.Path.{sym, ap, subst, ◌∙◌}
use Prim.Native.Nat.{ℕ, ◌+◌, ◌<◌}
use native.Mathlib.Omega.{arith}
use lib.ListN.{length}
use Rattle.walk.specs.inner.Along.{AlongItems}
use Rattle.walk.proofs.Left.{nearer}
use Rattle.schema.specs.Shape.{Sort, scalar}
use Rattle.schema.specs.Tables.{sheet_of}
use Rattle.schema.specs.Records.{record_shape}
use Rattle.fault.specs.Fault.{least as least_of}
use Rattle.document.specs.inner.Items.{picked_items}
use Rattle.document.specs.inner.Values.{array_by}
use Rattle.document.proofs.Arrays.{member-along}
use Rattle.cross.specs.Cross.{id_faults}
use Rattle.cross.proofs.Walked.{judging-start, judging-end, judging-room, judging-whole, judging-more}
use Rattle.cross.proofs.Fielded.{rule-each, rule-ids}
use Rattle.cross.proofs.zones.judge_rules.Goals as goal

pub loop-item-init : goal.loop-item-init
loop-item-init c = judging-start _ _ _ c.requires.2

pub returns : goal.returns
returns c = judging-end c.loop-item.invariant c.pass_item.ensures c.in_default.is ∙ ap least_of (rule-each _ _ 1 _)

pub overflow_add-sub : goal.overflow_add-sub
overflow_add-sub c = omega (arith, judging-room c.loop-item.invariant c.pass_item.ensures c.in-Some.is, c.requires.1)

pub slice_bounds-member-count : goal.slice_bounds-member-count
slice_bounds-member-count c = let m = c.pass_item.ensures.placed _ c.in-Some.is in omega arith

pub slice_bounds-member-start : goal.slice_bounds-member-start
slice_bounds-member-start c = let m = c.pass_item.ensures.placed _ c.in-Some.is in omega arith

pub slice_bounds-member-end : goal.slice_bounds-member-end
slice_bounds-member-end c = let m = c.pass_item.ensures.placed _ c.in-Some.is in omega arith

-- the rule is whole, and its ids are the array under their name
pub judge_named-requires : goal.judge_named-requires
judge_named-requires c =
    let i = c.array_in-ids.ensures ∙ ap array_by (c.member.ensures _ (judging-whole c.loop-item.invariant c.pass_item.ensures c.in-Some.is)) in
    (c.requires.0, subst (λ (l : List ℕ). 0 < length l → AlongItems l 1) (sym i) (member-along _ _))

pub loop-item-smaller : goal.loop-item-smaller
loop-item-smaller c = nearer c.pass_item.ensures c.in-Some.is

pub loop-item-preserved : goal.loop-item-preserved
loop-item-preserved c =
    let a = c.args in let types = picked_items (record_shape (sheet_of a.table 1)) a.types.now in
    let w = judging-whole c.loop-item.invariant c.pass_item.ensures c.in-Some.is in let i = c.array_in-ids.ensures ∙ ap array_by (c.member.ensures _ w) in
    judging-more c.loop-item.invariant c.pass_item.ensures c.in-Some.is
    (c.judge_named.ensures ∙ ap (λ l. least_of (id_faults types a.n (c.loop-item.sub + 1) l)) (ap (picked_items (scalar Sort.id)) i ∙ rule-ids w))
    c.lesser-least.ensures
