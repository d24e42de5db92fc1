use Prim.Native.Nat.{◌≤◌}
use lib.ListN.{drop}
use Rattle.text.specs.Text.{text_of}
use Rattle.text.specs.inner.Walk.{left}
use Rattle.text.proofs.Fronts.{Alike}
use Rattle.text.proofs.ordering.shared_from.Given as goal

abbrev pub invariant-loop-n : goal.invariant-loop-n
invariant-loop-n l = (l.n ≤ l.most) × Alike (text_of (drop l.at l.a)) (text_of (drop l.at l.b)) l.n (left l.a l.c) (left l.b l.d)
