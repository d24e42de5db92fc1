use Prim.Native.Nat.{◌≤◌}
use lib.ListN.{drop}
use Rattle.text.specs.Text.{text_of}
use Rattle.text.proofs.Fronts.{Alike}
use Rattle.text.proofs.ordering.shared.Given as goal

abbrev pub invariant-loop-i : goal.invariant-loop-i
invariant-loop-i l = (l.i ≤ l.most) × Alike (text_of l.a) (text_of l.b) l.i (text_of (drop l.i l.a)) (text_of (drop l.i l.b))
