use Rattle.sorting.specs.Ids.{id_at}
use Rattle.sorting.proofs.Making.{Written}
use Rattle.sorting.proofs.keys.fill_keys.Given as goal

abbrev pub invariant-loop-k : goal.invariant-loop-k
invariant-loop-k l = Written (id_at l.p l.places) l.skip l.initial.keys l.keys l.k
