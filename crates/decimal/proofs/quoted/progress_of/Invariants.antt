use mathlib.Core.Path.{◌≡◌}
use lib.ListN.{length}
use Rattle.text.specs.Text.{text_of}
use Rattle.text.specs.inner.Walk.{left}
use Rattle.decimal.specs.inner.Priced.{start, steps, Held}
use Rattle.decimal.proofs.quoted.progress_of.Given as goal

abbrev pub invariant-loop-b : goal.invariant-loop-b
invariant-loop-b l = Held l.p × (steps l.p (left l.spelled l.c) ≡ steps start (text_of l.spelled))

abbrev pub decreases-loop-b : goal.decreases-loop-b
decreases-loop-b l = length (left l.spelled l.c)
