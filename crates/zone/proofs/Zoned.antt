-- A zone by its bytes: its polygons, its window and its rules, and the ways through asking what these give.
use mathlib.Core.Bool.{Bool, true, false}
use mathlib.Core.List.{List, [], ◌∷◌}
use mathlib.Core.Path.{◌≡◌, refl, sym, ap, ap₂, ◌∙◌}
use Prim.Native.Nat.{ℕ}
use Rattle.limits.specs.Ceilings as ceiling
use Rattle.notation.specs.Ascii.{bytes}
use Rattle.notation.specs.Choice.{◌⇒◌else◌, ◌and◌}
use Rattle.json_text.specs.Tree.{Json}
use Rattle.walk.specs.Part.{Whole}
use Rattle.schema.specs.Shape as shape
use Rattle.schema.specs.Shape.{Rows, Sort}
use Rattle.schema.specs.Table23 as table
use Rattle.schema.specs.Pick.{Picked, pick}
use Rattle.geometry.specs.Ring.{Point}
use Rattle.rings.specs.inner.Parts.{polygon_shape}
use Rattle.document.specs.inner.Items.{picked_items}
use Rattle.document.specs.Document.{along, elements_of, field, field_items}
use Rattle.document.proofs.Rows.{Lists}
use Rattle.document.specs.inner.Values.{member_of, array_by}
use Rattle.document.proofs.Values.{Holds, member-holds}
use Rattle.document.proofs.FieldBytes.{field-spelled, row_of, listed}
use Rattle.zone.specs.declared.Given.{Given}
use Rattle.zone.specs.Zone.{integer, begun, unended, counts, polygons_hold, zone_rules_by, zone_rules}
use Rattle.zone.specs.inner.Values.{counts_by}
use Rattle.zone.proofs.Combining.{with_rules, rules-none}
use Rattle.zone.proofs.Fields.{nothing_in, parts-field, parts-inside}
use Rattle.std.specs.Prelude.{Option, None, Some}

-- the bytes of a zone's polygons, of its properties, and of the rules in them
abbrev pub polygon_bytes : List ℕ → List ℕ
polygon_bytes p = array_by (member_of (member_of p (bytes "geometry")) (bytes "coordinates"))

abbrev pub property_bytes : List ℕ → List ℕ
property_bytes p = member_of p (bytes "properties")

abbrev rule_bytes : List ℕ → List ℕ
rule_bytes p = array_by (member_of p (bytes "rules"))

-- rows of properties
record Dated (rows : Rows) : Type 0 where
  starts : Lists 75 (bytes "start") (shape.scalar Sort.timestamp) rows
  ends : Lists 76 (bytes "end") (shape.scalar Sort.timestamp) rows
  ruled : Lists 77 (bytes "rules") (shape.array shape.subs ceiling.rules table.rule) rows

module _ {rows : Rows} (d : Dated rows) {p : List ℕ} {x : Json} (w : Whole p x) where
  window : (moment : ℕ) → counts_by p moment ≡ counts (pick (shape.object rows) x) moment
  unfolding counts counts_by
  window moment = ap₂ (λ s e. begun (integer s) moment and unended (integer e) moment) (field-spelled d.starts w) (field-spelled d.ends w)

  in_window : (held : Bool) (moment : ℕ)
      → (counts (pick (shape.object rows) x) moment and held ⇒ field_items 77 (pick (shape.object rows) x) else [])
      ≡ (counts_by p moment and held ⇒ picked_items table.rule (rule_bytes p) else [])
  in_window held moment = ap₂ (λ c l. c and held ⇒ l else []) (sym (window moment)) (sym (parts-field d.ruled w))

-- without properties there are no rules, whatever counts and is held
no-rules : {p : List ℕ} → p ≡ [] → (t : Bool) → [] ≡ (t ⇒ picked_items table.rule (rule_bytes p) else [])
no-rules e true = sym (ap (λ p. picked_items table.rule (rule_bytes p)) e ∙ nothing_in table.rule (bytes "rules"))
no-rules e false = refl

in_properties : {rows : Rows} → Dated rows → (p : List ℕ) (held : Bool) (moment : ℕ) (o : Option Picked) → Holds (shape.object rows) p o
    → elim o [ None ↦ [] | Some y ↦ counts y moment and held ⇒ field_items 77 y else [] ]
    ≡ (counts_by p moment and held ⇒ picked_items table.rule (rule_bytes p) else [])
in_properties d p held moment None h = no-rules h (counts_by p moment and held)
in_properties d p held moment (Some y) h =
    ap (λ z. counts z moment and held ⇒ field_items 77 z else []) (sym h.2) ∙ in_window d h.1 held moment

module _ {p : List ℕ} {x : Json} (w : Whole p x) where
  -- its picked polygons
  abbrev polygons : List Picked
  polygons = elements_of (along (71 ∷ 73 ∷ []) (pick table.zone x))

  pub zone-polygons : picked_items polygon_shape (polygon_bytes p) ≡ polygons
  unfolding table.zone table.coordinates row_of
  zone-polygons = parts-inside (listed refl) (listed refl) w

  module _ (q : Point) (moment : ℕ) where
    zone-rules : zone_rules (pick table.zone x) q moment
        ≡ (counts_by (property_bytes p) moment and polygons_hold polygons q ⇒ picked_items table.rule (rule_bytes (property_bytes p)) else [])
    unfolding table.zone row_of zone_rules_by
    zone-rules =
        in_properties (record { starts = listed refl; ends = listed refl; ruled = listed refl }) (property_bytes p) (polygons_hold polygons q) moment
        (field 74 (pick table.zone x)) (member-holds (listed refl) p x w)

    module _ (type : List ℕ) (a : Given) where
      pub zone-past : counts_by (property_bytes p) moment ≡ false → a ≡ with_rules type a (zone_rules (pick table.zone x) q moment)
      zone-past c = sym (rules-none type a) ∙ rw (zone-rules, c)

      pub zone_off : counts_by (property_bytes p) moment ≡ true → polygons_hold polygons q ≡ false
          → a ≡ with_rules type a (zone_rules (pick table.zone x) q moment)
      zone_off c e = sym (rules-none type a) ∙ rw (zone-rules, c, e)

      pub zone-given : counts_by (property_bytes p) moment ≡ true → polygons_hold polygons q ≡ true
          → with_rules type a (picked_items table.rule (rule_bytes (property_bytes p))) ≡ with_rules type a (zone_rules (pick table.zone x) q moment)
      zone-given c e = rw (zone-rules, c, e)
