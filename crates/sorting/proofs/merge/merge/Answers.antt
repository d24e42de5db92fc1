-- Each turn puts the first of what is left of both runs behind what stands there, so that the whole stays the merge of the runs.
use mathlib.Core.Path.{sym, ◌∙◌}
use Prim.Native.Nat.{◌+◌}
use lib.ListN.{get_or, length-set}
use Rattle.sorting.specs.Ids.{id_at, not_after}
use Rattle.sorting.proofs.Merging.{merging_start, in_first, in_second, merging_first, merging_second, merging_end}
use native.Mathlib.Omega.{arith}
use Rattle.sorting.proofs.merge.merge.Goals as goal

pub loop-i-init : goal.loop-i-init
loop-i-init c =
    let q = c.args in merging_start (not_after (id_at q.ids.now.p.now q.ids.now.places.now)) q.a.now q.b.now q.out.now c.requires

pub overflow_add-i : goal.overflow_add-i
overflow_add-i c = let w = c.loop-i.invariant in omega (arith, w.first, w.second, w.long)

-- the next record is there, in the first run or in the second
pub bounds-a-i : goal.bounds-a-i
bounds-a-i c =
    let q = c.args in let w = c.loop-i in
    in_first (not_after (id_at q.ids.now.p.now q.ids.now.places.now)) q.a.now q.b.now w.out w.i w.j w.invariant (sym c.takes_first.ensures ∙ c.if-takes_first.true)

pub bounds-b-j : goal.bounds-b-j
bounds-b-j c =
    let q = c.args in let w = c.loop-i in
    in_second (not_after (id_at q.ids.now.p.now q.ids.now.places.now)) q.a.now q.b.now w.out w.i w.j w.invariant (sym c.takes_first.ensures ∙ c.if-takes_first.false)
    c.loop-i-test.true

pub loop-i-smaller-then-takes_first : goal.loop-i-smaller-then-takes_first
loop-i-smaller-then-takes_first c =
    let w = c.loop-i in omega (arith, length-set w.out (w.i + w.j) (get_or c.args.a.now w.i 0), c.loop-i-test.true)

pub loop-i-preserved-then-takes_first : goal.loop-i-preserved-then-takes_first
loop-i-preserved-then-takes_first c =
    let q = c.args in let w = c.loop-i in
    merging_first (not_after (id_at q.ids.now.p.now q.ids.now.places.now)) q.a.now q.b.now w.out w.i w.j w.invariant (sym c.takes_first.ensures ∙ c.if-takes_first.true)
    c.loop-i-test.true

pub loop-i-smaller : goal.loop-i-smaller
loop-i-smaller c =
    let w = c.loop-i in omega (arith, length-set w.out (w.i + w.j) (get_or c.args.b.now w.j 0), c.loop-i-test.true)

pub loop-i-preserved : goal.loop-i-preserved
loop-i-preserved c =
    let q = c.args in let w = c.loop-i in
    merging_second (not_after (id_at q.ids.now.p.now q.ids.now.places.now)) q.a.now q.b.now w.out w.i w.j w.invariant (sym c.takes_first.ensures ∙ c.if-takes_first.false)
    c.loop-i-test.true

pub shape_of-out : goal.shape_of-out
shape_of-out c = c.loop-i.invariant.long ∙ sym c.requires

pub returns : goal.returns
returns c =
    let q = c.args in let w = c.loop-i in
    merging_end (not_after (id_at q.ids.now.p.now q.ids.now.places.now)) q.a.now q.b.now w.out w.i w.j w.invariant c.loop-i-test.false
