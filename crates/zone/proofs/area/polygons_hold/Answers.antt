-- `polygons_hold` asks polygon after polygon, as `rings_hold` does with rings; a polygon's rings are the items of its own bytes.
use mathlib.Core.Path.{◌≡◌, sym, ap, subst, ◌∙◌}
use Rattle.walk.specs.inner.Along.{AlongItems}
use Rattle.walk.proofs.Left.{nearer, left-among, comes_start, comes_end, comes_here, comes_more}
use Rattle.schema.specs.Pick.{elements}
use Rattle.geometry.specs.inner.Shifted.{point}
use Rattle.rings.specs.Rings.{rings_found}
use Rattle.rings.specs.inner.Parts.{ring_shape, polygon_shape}
use Rattle.document.specs.inner.Items.{picked, picked_items}
use Rattle.zone.specs.Zone.{rings_hold}
use Rattle.zone.specs.inner.Clean.{CleanItems}
use Rattle.zone.proofs.Cleared.{polygon-rings, polygon-clean}
use Rattle.zone.proofs.Loops.{polygons, polygons-none, polygons-here, polygons-later}
use Rattle.zone.proofs.area.polygons_hold.Goals as goal

pub loop-m-init : goal.loop-m-init
loop-m-init c = let a = c.args in comes_start (polygons a.p.now (point a.q)) (λ h. AlongItems.start (c.requires.0.listing.whole h).1)

pub returns : goal.returns
returns c = sym (polygons-none _) ∙ comes_end c.loop-m.invariant c.pass_item.ensures c.in_default.is

pub rings_hold-requires : goal.rings_hold-requires
rings_hold-requires c =
    let i = left-among c.loop-m.invariant.left c.pass_item.ensures c.in-Some.is in
    (subst (CleanItems ring_shape rings_found) (sym c.item_bytes.ensures) (polygon-clean i c.requires.0), c.requires.1)

-- what was asked of a polygon
pub returns-then-rings_hold : goal.returns-then-rings_hold
returns-then-rings_hold c =
    let a = c.args in let i = left-among c.loop-m.invariant.left c.pass_item.ensures c.in-Some.is in
    let asked : c.rings_hold.result ≡ rings_hold (elements (picked polygon_shape a.p.now c.in-Some.m)) (point a.q) =
    c.rings_hold.ensures ∙ ap (λ l. rings_hold l (point a.q)) (ap (picked_items ring_shape) c.item_bytes.ensures ∙ polygon-rings i c.requires.0) in
    comes_here c.loop-m.invariant c.pass_item.ensures c.in-Some.is (λ l. polygons-here _ _ _ (sym asked ∙ c.if-rings_hold.true))

pub loop-m-smaller : goal.loop-m-smaller
loop-m-smaller c = nearer c.pass_item.ensures c.in-Some.is

pub loop-m-preserved : goal.loop-m-preserved
loop-m-preserved c =
    let a = c.args in let i = left-among c.loop-m.invariant.left c.pass_item.ensures c.in-Some.is in
    let asked : c.rings_hold.result ≡ rings_hold (elements (picked polygon_shape a.p.now c.in-Some.m)) (point a.q) =
    c.rings_hold.ensures ∙ ap (λ l. rings_hold l (point a.q)) (ap (picked_items ring_shape) c.item_bytes.ensures ∙ polygon-rings i c.requires.0) in
    comes_more c.loop-m.invariant c.pass_item.ensures c.in-Some.is _ (λ l. polygons-later _ _ _ (sym asked ∙ c.if-rings_hold.false))
