use Prim.Native.Nat.{◌-◌, ◌≤◌}
use lib.ListN.{length}
use Rattle.limits.specs.Ceilings.{file_bytes}
use Rattle.json_text.specs.Tree as tree
use Rattle.json_text.specs.Tree.{Members}
use Rattle.walk.specs.Part.{Whole}
use Rattle.ids.specs.inner.Ids.{NoIdBefore}
use Rattle.ids.proofs.id.id_text.Given as goal

abbrev pub invariant-loop-m : goal.invariant-loop-m
invariant-loop-m l = (l.at ≤ file_bytes) × ((ms : Members) → Whole l.q (tree.object ms) → NoIdBefore l.sheet l.q l.at)

abbrev pub decreases-loop-m : goal.decreases-loop-m
decreases-loop-m l = length l.q - l.at
