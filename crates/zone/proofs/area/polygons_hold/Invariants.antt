use Prim.Native.Nat.{◌-◌}
use lib.ListN.{length}
use Rattle.walk.proofs.Left.{Comes}
use Rattle.geometry.specs.inner.Shifted.{point}
use Rattle.rings.specs.inner.Parts.{polygon_shape}
use Rattle.document.specs.inner.Items.{picked_items}
use Rattle.zone.specs.Zone.{polygons_hold}
use Rattle.zone.proofs.Loops.{polygons}
use Rattle.zone.proofs.area.polygons_hold.Given as goal

abbrev pub invariant-loop-m : goal.invariant-loop-m
invariant-loop-m l = Comes l.p (polygons l.p (point l.q)) l.at (polygons_hold (picked_items polygon_shape l.p) (point l.q))

abbrev pub decreases-loop-m : goal.decreases-loop-m
decreases-loop-m l = length l.p - l.at
