-- `note` goes over the records once, and then puts them in order. The loop's invariant: those passed are entered, and those left come after them.
use native.Mathlib.Omega.{arith}
use Rattle.walk.proofs.Left.{nearer}
use Rattle.ids.proofs.Passing.{noting_start, noting_end, noting_next, noting_more}
use Rattle.ids.proofs.note.note.Goals as goal

pub loop-m-init : goal.loop-m-init
loop-m-init c = let x = c.requires in noting_start x.4 x.2

pub order_notes-requires : goal.order_notes-requires
order_notes-requires c = let w = c.loop-m.invariant.noted in (w.few, w.long)

pub returns : goal.returns
returns c =
    let a = c.args in
    c.order_notes.ensures a.sheet c.loop-m.invariant.noted (noting_end c.loop-m.invariant c.pass_item.ensures c.in_default.is)

pub note_record-requires : goal.note_record-requires
note_record-requires c =
    let x = c.requires in
    (noting_next c.loop-m.invariant c.pass_item.ensures _ c.in-Some.is x.1 x.0 x.3, c.loop-m.invariant.noted)

pub loop-m-preserved : goal.loop-m-preserved
loop-m-preserved c =
    noting_more c.loop-m.invariant c.pass_item.ensures _ c.in-Some.is c.note_record.ensures

pub overflow_add-n : goal.overflow_add-n
overflow_add-n c = let w = c.loop-m.invariant.noted in omega (arith, w.few)

pub loop-m-smaller : goal.loop-m-smaller
loop-m-smaller c = nearer c.pass_item.ensures c.in-Some.is
