-- `judge_available` passes over the items of field 37. The loop's invariant: the sum so far, with the counts left, makes the sum of all, and the least so
-- far, with what the items left break, the least of all. An item takes a byte at least, so no number is past the bytes; and a count has at most twelve
-- digits, so the sum fits.
use mathlib.Core.Path.{ap, ◌∙◌}
use Prim.Native.Nat.{◌+◌}
use native.Mathlib.Omega.{arith}
use Rattle.walk.proofs.Left.{nearer}
use Rattle.schema.specs.Tables.{sheet_of}
use Rattle.schema.specs.Records.{record_shape}
use Rattle.fault.specs.Fault.{least as least_of}
use Rattle.document.specs.inner.Items.{picked_items}
use Rattle.document.specs.Values.{integer_in}
use Rattle.document.specs.inner.Values.{text_by, spelled_by}
use Rattle.ids.specs.References.{refers as refers_to}
use Rattle.cross.specs.Cross.{record_place as place_at}
use Rattle.cross.proofs.Joined.{breaks}
use Rattle.cross.proofs.Walked.{judging-start, judging-end, judging-room, judging-whole, judging-more, sums-start, sums-end, sums-more}
use Rattle.cross.proofs.Fielded.{available-each, available-text, available-count, count_small}
use Rattle.cross.proofs.statuses.judge_available.Goals as goal

pub loop-item-init : goal.loop-item-init
loop-item-init c = let a = c.requires.2 in (omega arith, sums-start _ a, judging-start _ _ _ a)

pub returns : goal.returns
returns c =
    let k = c.loop-item in let s = c.pass_item.ensures in let e = c.in_default.is in
    record {
      sums = sums-end _ k.sum k.at k.invariant.1 s e;
      breaks = judging-end k.invariant.2 s e ∙ ap least_of (available-each _ _ 1 _);
    }

pub overflow_add-sub : goal.overflow_add-sub
overflow_add-sub c = omega (arith, judging-room c.loop-item.invariant.2 c.pass_item.ensures c.in-Some.is, c.requires.1)

pub slice_bounds-q-count : goal.slice_bounds-q-count
slice_bounds-q-count c = let m = c.pass_item.ensures.placed _ c.in-Some.is in omega arith

pub slice_bounds-q-start : goal.slice_bounds-q-start
slice_bounds-q-start c = let m = c.pass_item.ensures.placed _ c.in-Some.is in omega arith

pub slice_bounds-q-end : goal.slice_bounds-q-end
slice_bounds-q-end c = let m = c.pass_item.ensures.placed _ c.in-Some.is in omega arith

pub overflow_add-sum : goal.overflow_add-sum
overflow_add-sum c =
    let m = c.pass_item.ensures.placed _ c.in-Some.is in
    omega (arith, c.loop-item.invariant.0, c.requires.1, c.integer_in-sum.ensures, count_small c.member-in-Some.result.now)

pub loop-item-smaller : goal.loop-item-smaller
loop-item-smaller c = nearer c.pass_item.ensures c.in-Some.is

pub loop-item-preserved : goal.loop-item-preserved
loop-item-preserved c =
    let k = c.loop-item in let a = c.args in let e = c.in-Some.is in let s = c.pass_item.ensures in let i = s.placed _ e in
    let whole = judging-whole k.invariant.2 s e in let types = picked_items (record_shape (sheet_of a.table 1)) a.types.now in (
      omega (arith, k.invariant.0, c.integer_in-sum.ensures, count_small c.member-in-Some.result.now),
      sums-more a.p.now k.sum k.at k.invariant.1 s e
          (c.integer_in-sum.ensures ∙ ap integer_in (ap spelled_by (c.member-in-Some.ensures _ whole) ∙ available-count whole)),
      judging-more k.invariant.2 s e
          (breaks (place_at a.n (k.sub + 1)) 38 c.refers_in.result c.broken-broken.ensures
          (c.refers_in.ensures ∙ ap (λ z. refers_to z 10 types) (ap text_by (c.member.ensures _ whole) ∙ available-text whole)))
          c.lesser-least.ensures,
    )
