-- The loop's invariant: of a whole value, the walk goes along it, and counting the members that are left comes to what counting all comes to.
use Prim.Native.Nat.{◌-◌}
use lib.ListN.{length}
use Rattle.json_text.specs.Tree.{Json}
use Rattle.walk.specs.Part.{Whole}
use Rattle.walk.specs.inner.Along.{AlongMembers}
use Rattle.walk.proofs.Folds.{Walk, member_steps}
use Rattle.slots.specs.Found.{noted, found_in}
use Rattle.document.proofs.find.Given as goal

abbrev pub invariant-loop-m : goal.invariant-loop-m
invariant-loop-m l = (x : Json) → Whole l.p x → AlongMembers l.p l.at × Walk (member_steps l.p) (noted l.p l.name) l.found l.at (found_in l.p l.name)

abbrev pub decreases-loop-m : goal.decreases-loop-m
decreases-loop-m l = length l.p - l.at
