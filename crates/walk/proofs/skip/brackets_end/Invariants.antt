use Rattle.std.proofs.Common.{◌≡◌, ◌-◌, ◌≤◌, length, drop}
use Prim.Native.Nat.{suc}
use Rattle.walk.specs.inner.Skip.{outside, enclosed}
use Rattle.walk.proofs.skip.brackets_end.Given as goal

abbrev pub invariant-loop-i : goal.invariant-loop-i
invariant-loop-i l = (l.inner ≤ l.i) × (enclosed (suc l.inner) outside (drop l.i l.s) ≡ enclosed 1 outside (drop l.at l.s))

abbrev pub decreases-loop-i : goal.decreases-loop-i
decreases-loop-i l = length l.s - l.i
