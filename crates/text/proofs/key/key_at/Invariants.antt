use mathlib.Core.Path.{◌≡◌}
use Prim.Native.Nat.{◌-◌}
use lib.ListN.{drop}
use Rattle.text.specs.Text.{meant}
use Rattle.text.specs.inner.Key.{key_by, key_of, Room}
use Rattle.text.proofs.key.key_at.Given as goal

abbrev pub invariant-loop-k : goal.invariant-loop-k
invariant-loop-k l = Room (4 - l.k) l.whole × (key_by (4 - l.k) l.whole (meant l.raw (drop l.i l.s)) ≡ key_of (meant l.raw (drop l.at l.s)))
