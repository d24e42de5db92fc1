use mathlib.Core.Path.{◌≡◌}
use lib.ListN.{length}
use Rattle.text.specs.Ordering.{order_of}
use Rattle.text.specs.inner.Walk.{left, left_by}
use Rattle.text.proofs.ordering.order_left.Given as goal

abbrev pub invariant-loop-x : goal.invariant-loop-x
invariant-loop-x l = order_of (left l.a l.first) (left_by l.raw l.b l.second) ≡ order_of (left l.a l.initial.first) (left_by l.raw l.b l.initial.second)

abbrev pub decreases-loop-x : goal.decreases-loop-x
decreases-loop-x l = length (left l.a l.first)
