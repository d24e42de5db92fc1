-- The loop's invariant: so many numbers are written as it has passed. What it reads stands before the column, and stays.
use mathlib.Core.Path.{refl}
use native.Mathlib.Omega.{arith}
use Rattle.ids.proofs.Gathers.{written_start, written_next, written_all}
use Rattle.ids.proofs.gather.put_back.Goals as goal

pub loop-i-init : goal.loop-i-init
loop-i-init c = written_start c.requires.2

pub loop-i-preserved : goal.loop-i-preserved
loop-i-preserved c =
    let x = c.requires in let h = c.loop-i-test.true in let g = x.1.0 in let k = x.1.1 in let f = x.0 in
    written_next c.loop-i.invariant refl (omega arith) (c.loop-i.invariant.below c.loop-i.i (omega arith))

pub returns : goal.returns
returns c = written_all (omega arith) c.loop-i.invariant

pub offset_bounds-notes-i : goal.offset_bounds-notes-i
offset_bounds-notes-i c = let x = c.requires in omega (arith, c.loop-i-test.true, x.0)

pub bounds-notes-i : goal.bounds-notes-i
bounds-notes-i c = let x = c.requires in omega (arith, c.loop-i-test.true, x.0)

pub overflow_add-notes : goal.overflow_add-notes
overflow_add-notes c = let x = c.requires in omega (arith, c.loop-i-test.true, x.0, x.1.1)

pub offset_bounds-notes-column : goal.offset_bounds-notes-column
offset_bounds-notes-column c = let x = c.requires in omega (arith, c.loop-i-test.true, x.0, x.1.1)

pub bounds-notes-column : goal.bounds-notes-column
bounds-notes-column c = let x = c.requires in omega (arith, c.loop-i-test.true, x.0, x.1.1)
