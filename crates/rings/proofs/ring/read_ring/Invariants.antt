use Prim.Native.Nat.{◌-◌}
use lib.ListN.{length}
use Rattle.rings.proofs.Points.{Reading}
use Rattle.rings.proofs.ring.read_ring.Given as goal

abbrev pub invariant-loop-m : goal.invariant-loop-m
invariant-loop-m l = Reading l.field l.n l.p l.outline l.least l.at

abbrev pub decreases-loop-m : goal.decreases-loop-m
decreases-loop-m l = length l.p - l.at
