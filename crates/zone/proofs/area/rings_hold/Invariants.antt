use Prim.Native.Nat.{◌-◌}
use lib.ListN.{length}
use Rattle.walk.proofs.Left.{Comes}
use Rattle.geometry.specs.inner.Shifted.{point}
use Rattle.rings.specs.inner.Parts.{ring_shape}
use Rattle.document.specs.inner.Items.{picked_items}
use Rattle.zone.specs.Zone.{rings_hold}
use Rattle.zone.proofs.Loops.{rings}
use Rattle.zone.proofs.area.rings_hold.Given as goal

abbrev pub invariant-loop-m : goal.invariant-loop-m
invariant-loop-m l = Comes l.p (rings l.p (point l.q) l.first l.held) l.at (rings_hold (picked_items ring_shape l.p) (point l.q))

abbrev pub decreases-loop-m : goal.decreases-loop-m
decreases-loop-m l = length l.p - l.at
