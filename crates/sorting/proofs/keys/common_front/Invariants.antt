use Prim.Native.Nat.{◌≤◌}
use Rattle.sorting.specs.Ids.{id_at}
use Rattle.sorting.proofs.Making.{LikeFirst}
use Rattle.sorting.proofs.keys.common_front.Given as goal

abbrev pub invariant-loop-k : goal.invariant-loop-k
invariant-loop-k l = (l.skip ≤ 255) × LikeFirst (id_at l.p l.places) l.k l.skip
