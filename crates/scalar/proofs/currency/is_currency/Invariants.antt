use mathlib.Core.Path.{◌≡◌}
use Prim.Native.Nat.{◌+◌, ◌≤◌}
use lib.Dec.{eqb}
use lib.ListN.{length}
use Rattle.notation.specs.Choice.{◌and◌}
use Rattle.text.specs.Text.{text_of}
use Rattle.text.specs.inner.Walk.{left}
use Rattle.scalar.specs.Scalars.{capitals, currency}
use Rattle.scalar.proofs.currency.is_currency.Given as goal

abbrev pub invariant-loop-b : goal.invariant-loop-b
invariant-loop-b l = (l.n ≤ 3) × ((eqb (l.n + length (left l.spelled l.c)) 3 and capitals (left l.spelled l.c)) ≡ currency (text_of l.spelled))

abbrev pub decreases-loop-b : goal.decreases-loop-b
decreases-loop-b l = length (left l.spelled l.c)
