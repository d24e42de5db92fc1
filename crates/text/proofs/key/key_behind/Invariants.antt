use mathlib.Core.Path.{◌≡◌}
use Prim.Native.Nat.{◌-◌}
use lib.ListN.{drop}
use Rattle.text.specs.inner.Walk.{left}
use Rattle.text.proofs.key.key_behind.Given as goal

abbrev pub invariant-loop : goal.invariant-loop
invariant-loop l = drop (l.skip - l.counter) (left l.s l.after) ≡ drop l.skip (left l.s l.initial.after)
