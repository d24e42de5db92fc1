-- The loop's invariant: along an array, the items that are left, by the number that is left, come to the same item.
use mathlib.Core.List.{List}
use Prim.Native.Nat.{◌-◌, ◌≤◌}
use lib.ListN.{length}
use Rattle.walk.specs.declared.Item.{Item}
use Rattle.walk.specs.Walk.{items_of}
use Rattle.walk.specs.inner.Along.{AlongItems}
use Rattle.walk.proofs.Left.{Comes}
use Rattle.document.specs.Spans.{nth}
use Rattle.document.proofs.nth_span.Given as goal

abbrev pub invariant-loop-m : goal.invariant-loop-m
invariant-loop-m l = (1 ≤ l.left) × (AlongItems l.p 1 → Comes l.p (λ (is : List Item). nth l.from is l.left) l.at (nth l.from (items_of l.p) l.n))

abbrev pub decreases-loop-m : goal.decreases-loop-m
decreases-loop-m l = length l.p - l.at
