use mathlib.Core.Path.{◌≡◌}
use Prim.Native.Nat.{◌-◌}
use Rattle.text.specs.inner.Key.{key_by, Room}
use Rattle.text.specs.inner.Walk.{left}
use Rattle.text.proofs.key.key_left.Given as goal

abbrev pub invariant-loop-k : goal.invariant-loop-k
invariant-loop-k l = Room (l.n - l.k) l.whole × (key_by (l.n - l.k) l.whole (left l.s l.after) ≡ key_by l.n l.key (left l.s l.initial.after))
