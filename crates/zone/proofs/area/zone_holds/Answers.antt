-- The coordinates stand in the zone's geometry, and nothing is found in them.
use mathlib.Core.Path.{◌≡◌, sym, ap, subst, ◌∙◌}
use Rattle.notation.specs.Ascii.{bytes}
use Rattle.walk.specs.Part.{Whole, part_tree}
use Rattle.geometry.specs.inner.Shifted.{point}
use Rattle.rings.specs.Rings.{polygons_found}
use Rattle.rings.specs.inner.Parts.{polygon_shape}
use Rattle.document.specs.inner.Items.{picked_items}
use Rattle.document.specs.inner.Values.{member_of, array_by}
use Rattle.zone.specs.Zone.{polygons_hold}
use Rattle.zone.specs.inner.Clean.{CleanItems}
use Rattle.zone.proofs.Zoned.{polygon_bytes, zone-polygons}
use Rattle.zone.proofs.Cleared.{geometry_whole, coordinates-clean}
use Rattle.zone.proofs.area.zone_holds.Goals as goal

-- the bytes of the coordinates
pub polygons_hold-requires : goal.polygons_hold-requires
polygons_hold-requires c =
    let a = c.args in let e = c.member.ensures _ c.requires.0.whole in
    let found : c.array_in.result.now ≡ polygon_bytes a.p.now =
    c.array_in.ensures
    ∙ ap array_by (c.member-2.ensures _ (subst (λ q. Whole q (part_tree q)) (sym e) (geometry_whole c.requires.0)) ∙ ap (λ q. member_of q (bytes "coordinates")) e) in
    (subst (CleanItems polygon_shape polygons_found) (sym found) (coordinates-clean a.p.now c.requires.0), c.requires.1)

pub returns : goal.returns
returns c =
    let a = c.args in let e = c.member.ensures _ c.requires.0.whole in
    let found : c.array_in.result.now ≡ polygon_bytes a.p.now =
    c.array_in.ensures
    ∙ ap array_by (c.member-2.ensures _ (subst (λ q. Whole q (part_tree q)) (sym e) (geometry_whole c.requires.0)) ∙ ap (λ q. member_of q (bytes "coordinates")) e) in
    c.polygons_hold.ensures
    ∙ ap (λ l. polygons_hold l (point a.q)) (ap (picked_items polygon_shape) found ∙ zone-polygons c.requires.0.whole)
