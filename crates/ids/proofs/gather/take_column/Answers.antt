-- The loop's invariant: so many numbers are written as it has passed. What it reads stands behind the first column, and stays.
use mathlib.Core.Path.{ap, ◌∙◌}
use Prim.Native.Nat.{ℕ, ◌+◌, ◌*◌, ◌<◌}
use native.Mathlib.Omega.{arith}
use lib.ListN.{get_or}
use Rattle.ids.proofs.Gathers.{written_start, written_next, written_all}
use Rattle.ids.proofs.gather.take_column.Goals as goal

pub loop-i-init : goal.loop-i-init
loop-i-init c = written_start c.requires.2

pub offset_bounds-order-i : goal.offset_bounds-order-i
offset_bounds-order-i c = omega (arith, c.loop-i-test.true, c.requires.0.few)

pub bounds-order-i : goal.bounds-order-i
bounds-order-i c = c.loop-i-test.true

-- the number is that of a record, and its place in the column one of the notes
pub overflow_add-notes : goal.overflow_add-notes
overflow_add-notes c = let x = c.requires in omega (arith, c.from.ensures, x.0.each c.loop-i.i c.loop-i-test.true, x.0.few, x.1.1)

pub offset_bounds-notes-column : goal.offset_bounds-notes-column
offset_bounds-notes-column c = let x = c.requires in omega (arith, c.from.ensures, x.0.each c.loop-i.i c.loop-i-test.true, x.0.few, x.1.1)

pub bounds-notes-column : goal.bounds-notes-column
bounds-notes-column c = let x = c.requires in omega (arith, c.from.ensures, x.0.each c.loop-i.i c.loop-i-test.true, x.0.few, x.1.1)

pub offset_bounds-notes-i : goal.offset_bounds-notes-i
offset_bounds-notes-i c = omega (arith, c.loop-i-test.true, c.requires.0.few)

pub bounds-notes-i : goal.bounds-notes-i
bounds-notes-i c = omega (arith, c.loop-i-test.true, c.requires.0.few)

pub loop-i-preserved : goal.loop-i-preserved
loop-i-preserved c =
    let a = c.args in let x = c.requires in let h = c.loop-i-test.true in let f = x.0.few in let g = x.1.0 in
    let k : a.column + c.from.result < 3 * 4_095 = omega (arith, c.from.ensures, x.0.each c.loop-i.i h, x.0.few, x.1.1) in
    written_next c.loop-i.invariant (omega arith) (omega arith)
    (c.loop-i.invariant.above (a.column + c.from.result) (omega arith) ∙ ap (λ (k : ℕ). get_or a.notes.now (a.column + k) 0) c.from.ensures)

pub returns : goal.returns
returns c = written_all (omega arith) c.loop-i.invariant
