use Prim.Native.Nat.{◌-◌}
use lib.ListN.{length}
use Rattle.walk.proofs.Left.{Comes}
use Rattle.schema.specs.Table23.{zone}
use Rattle.geometry.specs.inner.Shifted.{point}
use Rattle.document.specs.inner.Items.{picked_items}
use Rattle.zone.specs.Zone.{rules, applicable}
use Rattle.zone.specs.inner.Values.{all_given}
use Rattle.zone.proofs.Loops.{zones_for}
use Rattle.zone.proofs.zones.given_by_zones.Given as goal

abbrev pub invariant-loop-m : goal.invariant-loop-m
invariant-loop-m l =
    Comes l.p (zones_for l.p l.type_id (point l.q) l.moment l.given) l.at (all_given (applicable (rules (picked_items zone l.p) (point l.q) l.moment) l.type_id))

abbrev pub decreases-loop-m : goal.decreases-loop-m
decreases-loop-m l = length l.p - l.at
