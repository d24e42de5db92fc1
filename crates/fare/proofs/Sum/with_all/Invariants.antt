use Rattle.fare.specs.inner.Folds.{with_charges}
use Rattle.fare.proofs.Charging.{Charging}
use Rattle.fare.proofs.Sum.with_all.Given as goal

abbrev pub invariant-loop-s : goal.invariant-loop-s
invariant-loop-s l = Charging l.l l.ride (with_charges l.fn.self l.l l.ride) l.s-index l.sum
