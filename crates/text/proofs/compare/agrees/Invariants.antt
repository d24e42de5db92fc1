use mathlib.Core.Path.{◌≡◌}
use lib.ListN.{drop}
use Rattle.text.specs.Text.{text_of}
use Rattle.text.specs.inner.Walk.{agreeing, left}
use Rattle.text.proofs.compare.agrees.Given as goal

abbrev pub invariant-loop-j : goal.invariant-loop-j
invariant-loop-j l = agreeing l.fold (left l.spelled l.c) (drop l.j l.plain) ≡ agreeing l.fold (text_of (drop l.from l.spelled)) (drop l.from l.plain)
