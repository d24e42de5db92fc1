use Prim.Native.Nat.{◌-◌}
use lib.ListN.{length}
use Rattle.rings.specs.Rings.{polygon, polygon_positions, item_count}
use Rattle.rings.specs.inner.Parts.{polygon_shape}
use Rattle.rings.proofs.Tallies.{Tallying}
use Rattle.rings.proofs.zone.judge_polygons.Given as goal

abbrev pub invariant-loop-m : goal.invariant-loop-m
invariant-loop-m l = Tallying l.field polygon item_count polygon_positions polygon_shape l.n l.p l.tally l.at

abbrev pub decreases-loop-m : goal.decreases-loop-m
decreases-loop-m l = length l.p - l.at
