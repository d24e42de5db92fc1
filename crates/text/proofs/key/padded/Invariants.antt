use mathlib.Core.Path.{◌≡◌}
use mathlib.Core.List.{[]}
use Prim.Native.Nat.{◌-◌}
use Rattle.text.specs.inner.Key.{key_by, Room}
use Rattle.text.proofs.key.padded.Given as goal

abbrev pub invariant-loop : goal.invariant-loop
invariant-loop l = Room (l.n - l.counter) l.whole × (key_by (l.n - l.counter) l.whole [] ≡ key_by l.n l.key [])
