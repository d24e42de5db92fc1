use mathlib.Core.Path.{◌≡◌}
use Prim.Native.Nat.{◌-◌}
use lib.ListN.{drop}
use Rattle.text.specs.Text.{meant}
use Rattle.text.proofs.key.key_of.Given as goal

abbrev pub invariant-loop-i : goal.invariant-loop-i
invariant-loop-i l = drop (l.skip - l.i) (meant l.raw (drop l.i l.s)) ≡ drop l.skip (meant l.raw l.s)
