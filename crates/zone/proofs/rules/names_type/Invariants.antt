use Prim.Native.Nat.{◌-◌}
use lib.ListN.{length}
use Rattle.walk.proofs.Left.{Comes}
use Rattle.document.specs.inner.Items.{picked_items}
use Rattle.zone.specs.Zone.{any_text}
use Rattle.zone.specs.inner.Values.{id_shape}
use Rattle.zone.proofs.Loops.{ids}
use Rattle.zone.proofs.rules.names_type.Given as goal

abbrev pub invariant-loop-m : goal.invariant-loop-m
invariant-loop-m l = Comes l.p (ids l.p l.type_id) l.at (any_text (picked_items id_shape l.p) l.type_id)

abbrev pub decreases-loop-m : goal.decreases-loop-m
decreases-loop-m l = length l.p - l.at
