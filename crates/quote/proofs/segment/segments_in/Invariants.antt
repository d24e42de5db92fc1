use Prim.Native.Nat.{◌-◌}
use lib.ListN.{length}
use Rattle.quote.proofs.Segments.{Reading}
use Rattle.quote.proofs.segment.segments_in.Given as goal

abbrev pub invariant-loop-m : goal.invariant-loop-m
invariant-loop-m l = Reading l.p l.list l.count l.at

abbrev pub decreases-loop-m : goal.decreases-loop-m
decreases-loop-m l = length l.p - l.at
