-- Without ids the rule is for every type, and with them for those that they name.
use mathlib.Core.Path.{◌≡◌, sym, ap, subst, ◌∙◌}
use lib.ListN.{length}
use Rattle.notation.specs.Ascii.{bytes}
use Rattle.rings.specs.inner.Parts.{Listing}
use Rattle.document.specs.inner.Items.{picked_items}
use Rattle.document.specs.inner.Values.{member_of, array_by}
use Rattle.zone.specs.Zone.{any_text}
use Rattle.zone.specs.inner.Values.{id_shape}
use Rattle.zone.proofs.Fields.{member-listing, applies-all, applies-named}
use Rattle.zone.proofs.rules.applies.Goals as goal

-- the bytes of the ids
pub returns-then-ids-eq0 : goal.returns-then-ids-eq0
returns-then-ids-eq0 c = applies-all c.requires c.args.type_id.now (sym (ap length (c.member-ids.ensures _ c.requires)) ∙ c.if-ids-eq0.true)

pub names_type-requires : goal.names_type-requires
names_type-requires c = subst Listing (sym (c.array_in.ensures ∙ ap array_by (c.member-ids.ensures _ c.requires))) (member-listing _ _)

pub returns : goal.returns
returns c =
    let a = c.args in
    let ids_are : c.member-ids.result.now ≡ member_of a.p.now (bytes "vehicle_type_id") = c.member-ids.ensures _ c.requires in
    c.names_type.ensures ∙ ap (λ q. any_text (picked_items id_shape q) a.type_id.now) (c.array_in.ensures ∙ ap array_by ids_are)
    ∙ applies-named c.requires a.type_id.now (λ e. c.if-ids-eq0.false (ap length ids_are ∙ e))
