-- `gather` walks over the members.
use native.Mathlib.Omega.{arith}
use lib.ListN.{length}
use Rattle.walk.proofs.Along.{members-along, members-along-more, members-along-end}
use Rattle.slots.specs.inner.Rows.{line_names}
use Rattle.slots.specs.inner.Slots.{empty, absorbed, gathered}
use Rattle.slots.proofs.Filled.{empty-kept, put-kept, gathers}
use Rattle.slots.proofs.gather.Goals as goal

pub loop-m-init : goal.loop-m-init
unfolding gathered
loop-m-init c =
    let a = c.args in let p = a.p.now in
    rw c.new-slots.ensures (empty-kept (length p), λ ms w. members-along p (absorbed p (line_names a.first a.count)) w empty)

pub returns : goal.returns
returns c =
    let a = c.args in let p = a.p.now in let names = line_names a.first a.count in let l = c.loop-m in
    gathers p a.first a.count l.slots l.invariant.0 (λ ms w.
    members-along-end p (absorbed p names) l.slots l.at (gathered p names) c.pass_member.ensures c.in_default.is (l.invariant.1 ms w))

pub slice_bounds-row_of-count : goal.slice_bounds-row_of-count
slice_bounds-row_of-count c = let m = c.pass_member.ensures.placed _ c.in-Some.is in omega arith

pub slice_bounds-row_of-start : goal.slice_bounds-row_of-start
slice_bounds-row_of-start c = let m = c.pass_member.ensures.placed _ c.in-Some.is in omega arith

pub slice_bounds-row_of-end : goal.slice_bounds-row_of-end
slice_bounds-row_of-end c = let m = c.pass_member.ensures.placed _ c.in-Some.is in omega arith

pub row_of-row-requires : goal.row_of-row-requires
row_of-row-requires c = c.table_bytes-table.ensures

pub loop-m-smaller : goal.loop-m-smaller
loop-m-smaller c = let m = c.pass_member.ensures.placed _ c.in-Some.is in omega arith

pub loop-m-preserved : goal.loop-m-preserved
loop-m-preserved c =
    let a = c.args in let l = c.loop-m in
    let p = a.p.now in let g = absorbed p (line_names a.first a.count) in let m = c.in-Some.m in
    let i = c.pass_member.ensures.placed _ c.in-Some.is in (
      rw c.put.ensures (put-kept (length p) l.slots _ m.value m.value_end i.value (omega arith) l.invariant.0),
      rw (c.put.ensures, c.row_of-row.ensures.named)
          (λ ms w. members-along-more p g l.slots l.at _ c.pass_member.ensures c.in-Some.is (l.invariant.1 ms w)),
    )
