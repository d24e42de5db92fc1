use Prim.Native.Nat.{◌≤◌}
use lib.ListN.{length}
use Rattle.ids.specs.inner.Spread.{Marks, Onward}
use Rattle.ids.proofs.Spreads.{Turning}
use Rattle.ids.proofs.order.spread.Given as goal

abbrev pub invariant-loop-i : goal.invariant-loop-i
invariant-loop-i l = Marks l.p l.order l.initial.notes l.notes × Onward l.p l.order l.initial.notes l.notes l.i × (1 ≤ l.i)

abbrev pub invariant-loop-j : goal.invariant-loop-j
invariant-loop-j l = Turning l.p l.order l.initial.notes l.notes l.j × (l.j ≤ length l.order)
