-- `stand_to` takes position after position. The loop's invariant: what is kept of those so far, with the parity of their crossings and the positions that are
-- left, tells where the point stands; an edge with the point on it settles it.
use native.Mathlib.Omega.{arith}
use mathlib.Core.Bool.{false}
use mathlib.Core.List.{List, ◌∷◌, map}
use mathlib.Core.Path.{◌≡◌, sym, ap, subst, ◌∙◌}
use Prim.Native.Nat.{◌<◌}
use lib.ListN.{length-map}
use Rattle.limits.specs.Ceilings.{positions}
use Rattle.walk.specs.declared.Item.{Item}
use Rattle.walk.specs.Walk.{items_of}
use Rattle.walk.specs.inner.Along.{AlongItems}
use Rattle.walk.proofs.Left.{nearer, left-whole, left-among, Comes, comes_start, comes_end, comes_here, comes_more}
use Rattle.schema.specs.Pick.{Picked}
use Rattle.geometry.specs.Ring.{Point}
use Rattle.geometry.specs.inner.Shifted.{point, stands}
use Rattle.geometry.specs.inner.Outline.{no_outline, stands_from}
use Rattle.geometry.specs.declared.Standing.{Standing}
use Rattle.geometry.specs.declared.Standing.TheVariants.{Is}
use Rattle.geometry.proofs.Outlines.{sized-none, sized-next, stands-start, stands-edge, stands-next, stands-end}
use Rattle.document.specs.inner.Items.{picked}
use Rattle.rings.specs.Rings.{position}
use Rattle.rings.specs.inner.Parts.{position_shape}
use Rattle.rings.proofs.Points.{points, counted_start, counted_less, counted-more, item-sound}
use Rattle.zone.proofs.Cleared.{ring-sound}
use Rattle.zone.proofs.area.stand_to.Invariants.{stands_to}
use Rattle.zone.proofs.area.stand_to.Goals as goal

pub loop-m-init : goal.loop-m-init
loop-m-init c =
    let a = c.args in let p = a.p.now in let r = ring-sound c.requires.0 in
    let from : List Item → Standing = stands_to p (point a.q) no_outline false a.first a.held in
    rw c.none-ring.ensures (
      sized-none,
      counted_start positions r.listing (omega (arith, r.few, length-map (items_of p) (picked position_shape p))),
      subst (Comes p from 1)
          (stands-start a.first a.held (points p (items_of p)) (point a.q)
          ∙ ap (λ (l : List Picked). stands a.first a.held (map position l) (point a.q)) r.are)
          (comes_start from (λ h. AlongItems.start (r.listing.whole h).1)),
    )

pub holds-requires : goal.holds-requires
holds-requires c = c.loop-m.invariant.0.summed

pub returns : goal.returns
returns c =
    let a = c.args in
    ap Is c.holds.ensures ∙ stands-end c.loop-m.ring (point a.q) c.loop-m.odd a.first a.held ∙ comes_end c.loop-m.invariant.2 c.pass_item.ensures c.in_default.is

-- the position that was read is the next of the ring's, and there is room for it
pub meets-requires : goal.meets-requires
meets-requires c = (c.loop-m.invariant.0.summed, c.position_in-next.ensures.0, c.requires.1)

pub crosses-odd-requires : goal.crosses-odd-requires
crosses-odd-requires c = (c.loop-m.invariant.0.summed, c.position_in-next.ensures.0, c.requires.1)

pub with-ring-requires : goal.with-ring-requires
with-ring-requires c =
    let less : c.loop-m.ring.count < positions = counted_less c.loop-m.ring.count positions c.loop-m.invariant.1 c.pass_item.ensures c.in-Some.is in
    (c.loop-m.invariant.0.summed, c.position_in-next.ensures.0, omega (arith, less))

pub returns-then-meets : goal.returns-then-meets
returns-then-meets c =
    let a = c.args in let k = c.loop-m in let w = k.invariant.2.left in let q = point a.q in
    let here : point c.position_in-next.result ≡ position (picked position_shape a.p.now c.in-Some.m) =
    c.position_in-next.ensures.1 _ (rw c.item_bytes.ensures (left-whole w c.pass_item.ensures c.in-Some.is))
    (item-sound a.p.now (ring-sound c.requires.0).each (left-among w c.pass_item.ensures c.in-Some.is)) in
    comes_here k.invariant.2 c.pass_item.ensures c.in-Some.is
    (λ l.
    ap (λ (z : Point). stands_from k.ring k.odd a.first a.held (z ∷ points a.p.now l) q) (sym here)
    ∙ stands-edge k.ring k.odd a.first a.held c.position_in-next.result (points a.p.now l) q (sym c.meets.ensures ∙ c.if-meets.true))

pub loop-m-smaller : goal.loop-m-smaller
loop-m-smaller c = nearer c.pass_item.ensures c.in-Some.is

pub loop-m-preserved : goal.loop-m-preserved
loop-m-preserved c =
    let a = c.args in let k = c.loop-m in let w = k.invariant.2.left in let q = point a.q in
    let here : point c.position_in-next.result ≡ position (picked position_shape a.p.now c.in-Some.m) =
    c.position_in-next.ensures.1 _ (rw c.item_bytes.ensures (left-whole w c.pass_item.ensures c.in-Some.is))
    (item-sound a.p.now (ring-sound c.requires.0).each (left-among w c.pass_item.ensures c.in-Some.is)) in
    let less : k.ring.count < positions = counted_less k.ring.count positions k.invariant.1 c.pass_item.ensures c.in-Some.is in
    rw c.with-ring.ensures (
      sized-next k.invariant.0 c.position_in-next.ensures.0,
      counted-more k.ring.count positions k.invariant.1 c.pass_item.ensures c.in-Some.is,
      comes_more k.invariant.2 c.pass_item.ensures c.in-Some.is _
          (λ l.
          ap (λ (z : Point). stands_from k.ring k.odd a.first a.held (z ∷ points a.p.now l) q) (sym here)
          ∙ stands-next k.ring k.odd a.first a.held c.position_in-next.result (points a.p.now l) q less
          (sym c.meets.ensures ∙ c.if-meets.false) c.crosses-odd.ensures),
    )
