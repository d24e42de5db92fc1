use Prim.Native.Nat.{◌≤◌}
use Rattle.sorting.specs.Ids.{id_at}
use Rattle.sorting.proofs.Repeated.{LeastRepeat}
use Rattle.sorting.proofs.repeat.first_repeat.Given as goal

abbrev pub invariant-loop-i : goal.invariant-loop-i
invariant-loop-i l = LeastRepeat (id_at l.p l.places) l.order l.i l.first × (1 ≤ l.i)
