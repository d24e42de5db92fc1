-- A zone that does not count, or does not hold the point, adds nothing; another adds what its rules give.
use mathlib.Core.Path.{◌≡◌, sym, ap, subst, ◌∙◌}
use mathlib.Core.Bool.{true}
use Rattle.notation.specs.Ascii.{bytes}
use Rattle.walk.specs.Part.{Whole, part_tree}
use Rattle.schema.specs.Table23.{rule}
use Rattle.geometry.specs.inner.Shifted.{point}
use Rattle.rings.specs.inner.Parts.{Listing}
use Rattle.document.specs.inner.Items.{picked_items}
use Rattle.document.specs.inner.Values.{member_of, array_by}
use Rattle.zone.specs.inner.Values.{counts_by}
use Rattle.zone.proofs.Combining.{with_rules}
use Rattle.zone.proofs.Fields.{member-listing}
use Rattle.zone.proofs.Cleared.{properties-whole}
use Rattle.zone.proofs.Zoned.{property_bytes, zone-past, zone_off, zone-given}
use Rattle.zone.proofs.zones.with_zone.Goals as goal

-- the bytes of the properties, which are whole
pub counts-requires : goal.counts-requires
counts-requires c = subst (λ q. Whole q (part_tree q)) (sym (c.member-properties.ensures _ c.requires.0.whole)) (properties-whole c.requires.0)

-- what was asked of the window
pub returns-then-not-counts : goal.returns-then-not-counts
returns-then-not-counts c =
    let a = c.args in
    zone-past c.requires.0.whole (point a.q) a.moment a.type_id.now a.start
    (sym (c.counts.ensures ∙ ap (λ p. counts_by p a.moment) (c.member-properties.ensures _ c.requires.0.whole)) ∙ c.if-not-counts.true)

pub returns-then-not-zone_holds : goal.returns-then-not-zone_holds
returns-then-not-zone_holds c =
    let a = c.args in
    let in_window : counts_by (property_bytes a.p.now) a.moment ≡ true =
    sym (c.counts.ensures ∙ ap (λ p. counts_by p a.moment) (c.member-properties.ensures _ c.requires.0.whole)) ∙ c.if-not-counts.false in
    zone_off c.requires.0.whole (point a.q) a.moment a.type_id.now a.start in_window (sym c.zone_holds.ensures ∙ c.if-not-zone_holds.true)

-- the bytes of the rules
pub with_rules-requires : goal.with_rules-requires
with_rules-requires c =
    let e : c.member-properties.result.now ≡ property_bytes c.args.p.now = c.member-properties.ensures _ c.requires.0.whole in
    let whole = subst (λ q. Whole q (part_tree q)) (sym e) (properties-whole c.requires.0) in
    subst Listing (sym (c.array_in.ensures ∙ ap array_by (c.member.ensures _ whole ∙ ap (λ p. member_of p (bytes "rules")) e))) (member-listing _ _)

pub returns : goal.returns
returns c =
    let a = c.args in
    let e : c.member-properties.result.now ≡ property_bytes a.p.now = c.member-properties.ensures _ c.requires.0.whole in
    let whole = subst (λ q. Whole q (part_tree q)) (sym e) (properties-whole c.requires.0) in
    let rules_are : c.array_in.result.now ≡ array_by (member_of (property_bytes a.p.now) (bytes "rules")) =
    c.array_in.ensures ∙ ap array_by (c.member.ensures _ whole ∙ ap (λ p. member_of p (bytes "rules")) e) in
    let in_window : counts_by (property_bytes a.p.now) a.moment ≡ true = sym (c.counts.ensures ∙ ap (λ p. counts_by p a.moment) e) ∙ c.if-not-counts.false in
    c.with_rules.ensures
    ∙ ap (λ p. with_rules a.type_id.now a.start (picked_items rule p)) rules_are
    ∙ zone-given c.requires.0.whole (point a.q) a.moment a.type_id.now a.start in_window (sym c.zone_holds.ensures ∙ c.if-not-zone_holds.false)
