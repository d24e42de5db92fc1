use Prim.Native.Nat.{◌-◌}
use lib.ListN.{length}
use Rattle.rings.specs.Rings.{ring, item_count}
use Rattle.rings.specs.inner.Parts.{ring_shape}
use Rattle.rings.proofs.Tallies.{Tallying}
use Rattle.rings.proofs.zone.judge_rings.Given as goal

abbrev pub invariant-loop-m : goal.invariant-loop-m
invariant-loop-m l = Tallying l.field ring item_count item_count ring_shape l.n l.p l.tally l.at

abbrev pub decreases-loop-m : goal.decreases-loop-m
decreases-loop-m l = length l.p - l.at
