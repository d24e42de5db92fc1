-- The loop's invariant: the places in the slots are in the text, and of a whole object the pass over the members that are left comes to what the
-- pass over all comes to.
use Prim.Native.Nat.{◌-◌}
use lib.ListN.{length}
use Rattle.json_text.specs.Tree.{Json, Members}
use Rattle.walk.specs.Part.{Whole}
use Rattle.walk.proofs.Along.{MembersAlong}
use Rattle.slots.specs.inner.Rows.{line_names}
use Rattle.slots.specs.inner.Slots.{absorbed, gathered}
use Rattle.slots.proofs.Filled.{PlacesWithin}
use Rattle.slots.proofs.gather.Given as goal

abbrev pub invariant-loop-m : goal.invariant-loop-m
invariant-loop-m l =
    PlacesWithin (length l.p) l.slots
    × ((ms : Members) → Whole l.p (Json.object ms) → MembersAlong l.p (absorbed l.p (line_names l.first l.count)) l.slots l.at (gathered l.p (line_names l.first l.count)))

abbrev pub decreases-loop-m : goal.decreases-loop-m
decreases-loop-m l = length l.p - l.at
