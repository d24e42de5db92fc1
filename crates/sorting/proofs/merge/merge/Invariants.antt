use Prim.Native.Nat.{◌+◌, ◌-◌}
use lib.ListN.{length}
use Rattle.sorting.specs.Ids.{id_at, not_after}
use Rattle.sorting.proofs.Merging.{Merging}
use Rattle.sorting.proofs.merge.merge.Given as goal

abbrev pub invariant-loop-i : goal.invariant-loop-i
invariant-loop-i l = Merging (not_after (id_at l.ids.p.now l.ids.places.now)) l.a l.b l.out l.i l.j

abbrev pub decreases-loop-i : goal.decreases-loop-i
decreases-loop-i l = length l.out - (l.i + l.j)
