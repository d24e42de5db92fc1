-- The loop's invariant: so many keys are written as it has passed.
use mathlib.Core.Path.{ap}
use Prim.Native.Nat.{ℕ}
use native.Mathlib.Omega.{arith}
use lib.ListN.{get_or}
use Rattle.ids.proofs.Gathers.{written_start, written_next, written_all}
use Rattle.ids.proofs.gather.put_keys.Goals as goal

pub loop-i-init : goal.loop-i-init
loop-i-init c = written_start c.requires.2

-- the record's number is one of those that have keys
pub bounds-keys-from : goal.bounds-keys-from
bounds-keys-from c =
    let x = c.requires in
    omega (arith, c.from.ensures, x.0.each c.loop-i.i c.loop-i-test.true, x.1)

pub loop-i-preserved : goal.loop-i-preserved
loop-i-preserved c =
    let h = c.loop-i-test.true in let f = c.requires.0.few in
    written_next c.loop-i.invariant (omega arith) (omega arith) (ap (λ (k : ℕ). get_or c.args.keys.now k 0) c.from.ensures)

pub returns : goal.returns
returns c = written_all (omega arith) c.loop-i.invariant

pub offset_bounds-order-i : goal.offset_bounds-order-i
offset_bounds-order-i c = let x = c.requires in omega (arith, c.loop-i-test.true, x.0.few)

pub bounds-order-i : goal.bounds-order-i
bounds-order-i c = c.loop-i-test.true

pub offset_bounds-notes-i : goal.offset_bounds-notes-i
offset_bounds-notes-i c = let x = c.requires in omega (arith, c.loop-i-test.true, x.0.few)

pub bounds-notes-i : goal.bounds-notes-i
bounds-notes-i c = let x = c.requires in omega (arith, c.loop-i-test.true, x.0.few)
