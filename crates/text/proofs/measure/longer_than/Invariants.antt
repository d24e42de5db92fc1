use mathlib.Core.Path.{◌≡◌}
use Prim.Native.Nat.{◌+◌, ◌-◌}
use lib.ListN.{length, drop}
use Rattle.text.specs.Text.{text_of}
use Rattle.text.proofs.measure.longer_than.Given as goal

abbrev pub invariant-loop-n : goal.invariant-loop-n
invariant-loop-n l = l.n + length (text_of (drop l.i l.spelled)) ≡ length (text_of l.spelled)

abbrev pub decreases-loop-n : goal.decreases-loop-n
decreases-loop-n l = length l.spelled - l.i
