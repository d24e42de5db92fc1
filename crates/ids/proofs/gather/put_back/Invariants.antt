use lib.ListN.{get_or}
use Rattle.ids.specs.inner.Gather.{Written}
use Rattle.ids.proofs.gather.put_back.Given as goal

abbrev pub invariant-loop-i : goal.invariant-loop-i
invariant-loop-i l = Written l.column l.i (λ k. get_or l.initial.notes k 0) l.initial.notes l.notes
