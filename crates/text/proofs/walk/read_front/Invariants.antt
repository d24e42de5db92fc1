use Prim.Native.Nat.{◌≤◌}
use Rattle.text.specs.inner.Walk.{left}
use Rattle.text.proofs.Filling.{Filled}
use Rattle.text.proofs.walk.read_front.Given as goal

abbrev pub invariant-loop-count : goal.invariant-loop-count
invariant-loop-count l = (l.count ≤ l.most) × Filled (left l.spelled l.initial.after) l.bytes (left l.spelled l.after) l.count
