use Prim.Native.Nat.{◌-◌}
use lib.ListN.{length}
use Rattle.walk.proofs.Left.{Comes}
use Rattle.schema.specs.Table23.{rule}
use Rattle.document.specs.inner.Items.{picked_items}
use Rattle.zone.proofs.Combining.{with_rules}
use Rattle.zone.proofs.Loops.{rules_for}
use Rattle.zone.proofs.rules.with_rules.Given as goal

abbrev pub invariant-loop-m : goal.invariant-loop-m
invariant-loop-m l = Comes l.p (rules_for l.p l.type_id l.given) l.at (with_rules l.type_id l.initial.given (picked_items rule l.p))

abbrev pub decreases-loop-m : goal.decreases-loop-m
decreases-loop-m l = length l.p - l.at
