use Prim.Native.Nat.{◌+◌}
use lib.ListN.{get_or}
use Rattle.ids.specs.inner.Gather.{Written}
use Rattle.ids.proofs.gather.take_column.Given as goal

abbrev pub invariant-loop-i : goal.invariant-loop-i
invariant-loop-i l = Written 0 l.i (λ k. get_or l.initial.notes (l.column + get_or l.order k 0) 0) l.initial.notes l.notes
