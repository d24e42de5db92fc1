-- `given_by_zones` asks zone after zone. The loop's invariant: what is given so far, with the zones that are left, comes to what all give. Where all values are
-- given the zones that are left add nothing.
use mathlib.Core.List.{List, ◌∷◌, map}
use mathlib.Core.Path.{◌≡◌, sym, ap, subst, ◌∙◌}
use Prim.Native.Nat.{ℕ}
use Rattle.walk.specs.declared.Item.{Item}
use Rattle.walk.specs.Part.{part_tree}
use Rattle.walk.proofs.Parts.{item_of}
use Rattle.walk.proofs.Left.{nearer, left-among, Comes, comes_start, comes_end, comes_here, comes_more}
use Rattle.schema.specs.Table23.{zone}
use Rattle.schema.specs.Pick.{pick}
use Rattle.geometry.specs.Ring.{Point}
use Rattle.geometry.specs.inner.Shifted.{point}
use Rattle.document.specs.inner.Items.{picked}
use Rattle.zone.specs.declared.Given.{Given}
use Rattle.zone.specs.Zone.{zone_rules}
use Rattle.zone.specs.inner.Values.{nothing}
use Rattle.zone.specs.inner.Clean.{CleanZone}
use Rattle.zone.proofs.Cleared.{zone-clean}
use Rattle.zone.proofs.Combining.{nothing-given, given-full, with_rules, zones-none, zones-next}
use Rattle.zone.proofs.Loops.{zones_for}
use Rattle.zone.proofs.zones.given_by_zones.Goals as goal

-- with the zone m, what is given goes on to the zones after it
onward : (p type : List ℕ) (q : Point) (moment : ℕ) (given : Given) (m : Item) {bytes : List ℕ} {with : Given}
    → with ≡ with_rules type given (zone_rules (pick zone (part_tree bytes)) q moment) → bytes ≡ item_of p m → (l : List Item)
    → zones_for p type q moment given (m ∷ l) ≡ zones_for p type q moment with l
onward p type q moment given m e f l =
    zones-next type q moment given (picked zone p m) (map (picked zone p) l)
    ∙ ap (λ g. zones_for p type q moment g l) (sym (e ∙ ap (λ b. with_rules type given (zone_rules (pick zone (part_tree b)) q moment)) f))

pub loop-m-init : goal.loop-m-init
loop-m-init c =
    let a = c.args in let none = zones_for a.p.now a.type_id.now (point a.q) a.moment nothing in
    rw c.nothing-given.ensures (subst (Comes a.p.now none 1) (nothing-given _) (comes_start none (λ h. c.requires.0.along)))

pub returns : goal.returns
returns c =
    let a = c.args in
    sym (zones-none a.type_id.now (point a.q) a.moment c.loop-m.given) ∙ comes_end c.loop-m.invariant c.pass_item.ensures c.in_default.is

pub with_zone-given-requires : goal.with_zone-given-requires
with_zone-given-requires c =
    (subst CleanZone (sym c.item_bytes.ensures) (zone-clean (left-among c.loop-m.invariant.left c.pass_item.ensures c.in-Some.is) c.requires.0), c.requires.1)

pub returns-then-is_full : goal.returns-then-is_full
returns-then-is_full c =
    let a = c.args in
    comes_here c.loop-m.invariant c.pass_item.ensures c.in-Some.is
    (λ l.
    onward a.p.now a.type_id.now (point a.q) a.moment c.loop-m.given c.in-Some.m c.with_zone-given.ensures c.item_bytes.ensures l
    ∙ given-full c.with_zone-given.result _ (sym c.is_full.ensures ∙ c.if-is_full.true))

pub loop-m-smaller : goal.loop-m-smaller
loop-m-smaller c = nearer c.pass_item.ensures c.in-Some.is

pub loop-m-preserved : goal.loop-m-preserved
loop-m-preserved c =
    let a = c.args in
    comes_more c.loop-m.invariant c.pass_item.ensures c.in-Some.is _
    (onward a.p.now a.type_id.now (point a.q) a.moment c.loop-m.given c.in-Some.m c.with_zone-given.ensures c.item_bytes.ensures)
