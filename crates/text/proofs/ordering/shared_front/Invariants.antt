use Rattle.text.specs.inner.Walk.{Ahead}
use Rattle.text.proofs.ordering.shared_front.Given as goal

abbrev pub invariant-loop-i : goal.invariant-loop-i
invariant-loop-i l = Ahead l.a l.b l.i
