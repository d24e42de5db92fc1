use mathlib.Core.Path.{◌≡◌}
use Prim.Native.Nat.{◌≤◌}
use lib.ListN.{length, drop}
use Rattle.text.specs.Text.{text_of}
use Rattle.text.specs.inner.Walk.{agreeing}
use Rattle.text.proofs.compare.reads_as.Given as goal

abbrev pub invariant-loop-i : goal.invariant-loop-i
invariant-loop-i l = (l.i ≤ length l.plain) × (agreeing l.fold (text_of (drop l.i l.spelled)) (drop l.i l.plain) ≡ agreeing l.fold (text_of l.spelled) l.plain)
