-- The loop's invariant: where an object at the front has the name once, none of that name stands before `at`.
use Prim.Native.Nat.{◌-◌}
use lib.ListN.{length}
use Rattle.document.proofs.First.{NotFoundBefore}
use Rattle.document.proofs.value_from.Given as goal

abbrev pub invariant-loop-n : goal.invariant-loop-n
invariant-loop-n l = NotFoundBefore l.p l.name l.at

abbrev pub decreases-loop-n : goal.decreases-loop-n
decreases-loop-n l = length l.p - l.at
