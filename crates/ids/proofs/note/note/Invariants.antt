use Prim.Native.Nat.{◌-◌}
use lib.ListN.{length}
use Rattle.ids.proofs.Passing.{Noting}
use Rattle.ids.proofs.note.note.Given as goal

abbrev pub invariant-loop-m : goal.invariant-loop-m
invariant-loop-m l = Noting l.sheet l.p l.notes l.n l.at

abbrev pub decreases-loop-m : goal.decreases-loop-m
decreases-loop-m l = length l.p - l.at
