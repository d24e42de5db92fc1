use mathlib.Core.Bool.{Bool}
use mathlib.Core.List.{List}
use Prim.Native.Nat.{ℕ, ◌-◌}
use lib.ListN.{length}
use Rattle.limits.specs.Ceilings.{positions}
use Rattle.walk.specs.declared.Item.{Item}
use Rattle.walk.specs.Part.{part_tree}
use Rattle.walk.proofs.Left.{Comes}
use Rattle.schema.specs.Pick.{pick}
use Rattle.geometry.specs.Ring.{Point}
use Rattle.geometry.specs.inner.Shifted.{point, stands}
use Rattle.geometry.specs.inner.Outline.{Sized, stands_from}
use Rattle.geometry.specs.declared.Outline.{Outline}
use Rattle.geometry.specs.declared.Standing.{Standing}
use Rattle.rings.specs.inner.Parts.{ring_shape}
use Rattle.rings.proofs.Points.{points, Counted}
use Rattle.zone.specs.Zone.{outline}
use Rattle.zone.proofs.area.stand_to.Given as goal

-- where q stands, by what is kept of the ring and the items of p that are left
abbrev pub stands_to : List ℕ → Point → Outline → (odd first held : Bool) → List Item → Standing
stands_to p q ring odd first held ms = stands_from ring odd first held (points p ms) q

abbrev pub invariant-loop-m : goal.invariant-loop-m
invariant-loop-m l =
    Sized l.ring × Counted l.p l.ring.count positions l.at
    × Comes l.p (stands_to l.p (point l.q) l.ring l.odd l.first l.held) l.at (stands l.first l.held (outline (pick ring_shape (part_tree l.p))) (point l.q))

abbrev pub decreases-loop-m : goal.decreases-loop-m
decreases-loop-m l = length l.p - l.at
