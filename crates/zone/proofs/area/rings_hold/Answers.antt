-- `rings_hold` asks ring after ring. The loop's invariant: what those that were asked say of the point, with those that are left, tells whether the polygon holds
-- it.
use mathlib.Core.Bool.{true, false}
use mathlib.Core.Path.{◌≡◌, sym, ap, subst, ◌∙◌}
use Rattle.walk.specs.Part.{part_tree}
use Rattle.walk.specs.inner.Along.{AlongItems}
use Rattle.walk.proofs.Left.{nearer, left-among, Comes, comes_start, comes_end, comes_here, comes_more}
use Rattle.schema.specs.Pick.{pick}
use Rattle.geometry.specs.inner.Shifted.{point, stands}
use Rattle.geometry.proofs.Holed.{from-none, from-edge, from_next}
use Rattle.rings.specs.inner.Parts.{ring_shape}
use Rattle.document.specs.inner.Items.{picked}
use Rattle.zone.specs.Zone.{outline}
use Rattle.zone.specs.inner.Clean.{CleanRing}
use Rattle.zone.proofs.Cleared.{ring-clean}
use Rattle.zone.proofs.Loops.{rings, rings-all}
use Rattle.zone.proofs.area.rings_hold.Goals as goal

pub loop-m-init : goal.loop-m-init
loop-m-init c =
    let a = c.args in let p = a.p.now in let all = rings p (point a.q) true false in
    subst (Comes p all 1) (rings-all p (point a.q)) (comes_start all (λ h. AlongItems.start (c.requires.0.listing.whole h).1))

pub returns : goal.returns
returns c = sym (from-none c.loop-m.first c.loop-m.held _) ∙ comes_end c.loop-m.invariant c.pass_item.ensures c.in_default.is

pub stand_to-requires : goal.stand_to-requires
stand_to-requires c =
    (subst CleanRing (sym c.item_bytes.ensures) (ring-clean (left-among c.loop-m.invariant.left c.pass_item.ensures c.in-Some.is) c.requires.0), c.requires.1)

-- what was asked of a ring
pub returns-in-Edge : goal.returns-in-Edge
returns-in-Edge c =
    let a = c.args in let k = c.loop-m in
    let asked : c.stand_to.result ≡ stands k.first k.held (outline (picked ring_shape a.p.now c.in-Some.m)) (point a.q) =
    c.stand_to.ensures ∙ ap (λ z. stands k.first k.held (outline (pick ring_shape (part_tree z))) (point a.q)) c.item_bytes.ensures in
    comes_here k.invariant c.pass_item.ensures c.in-Some.is (λ l. from-edge k.first k.held _ _ _ (sym c.in-Edge.is ∙ asked))

pub loop-m-smaller : goal.loop-m-smaller
loop-m-smaller c = nearer c.pass_item.ensures c.in-Some.is

pub loop-m-preserved : goal.loop-m-preserved
loop-m-preserved c =
    let a = c.args in let k = c.loop-m in
    let asked : c.stand_to.result ≡ stands k.first k.held (outline (picked ring_shape a.p.now c.in-Some.m)) (point a.q) =
    c.stand_to.ensures ∙ ap (λ z. stands k.first k.held (outline (pick ring_shape (part_tree z))) (point a.q)) c.item_bytes.ensures in
    comes_more k.invariant c.pass_item.ensures c.in-Some.is _ (λ l. from_next k.first k.held _ _ _ c.in-Is.b (sym c.in-Is.is ∙ asked))
