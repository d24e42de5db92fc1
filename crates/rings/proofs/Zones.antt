-- Rings in a polygon and polygons in a zone: each is an array's items judged one after the other, with the rule of its own count.
use mathlib.Core.Bool.{true, false}
use mathlib.Core.List.{List, [], ◌∷◌, ◌++◌}
use mathlib.Core.Path.{◌≡◌, refl, sym, ap, ap₂, ◌∙◌}
use Prim.Native.Nat.{ℕ, ◌+◌}
use lib.ListN.{length}
use Rattle.limits.specs.Ceilings as ceiling
use Rattle.word.specs.Kinds.{wrong_type, too_many, bad_ring}
use Rattle.json_text.specs.Tree.{Json}
use Rattle.walk.specs.Part.{Whole}
use Rattle.walk.specs.inner.Kind.{kind_at}
use Rattle.schema.specs.Shape as shape
use Rattle.schema.specs.Table23.{coordinates}
use Rattle.schema.specs.Pick.{Picked, PickedItems, items, pick, list_of}
use Rattle.fault.specs.Fault.{lesser}
use Rattle.scalar.specs.Scalars.{unless}
use Rattle.rings.specs.Rings.{Found, found_at, count, ring, item_count, rings_found, item_total, polygon, polygon_positions, is_ring_count, are_zone_counts, polygons_found, coordinates_found}
use Rattle.document.specs.inner.Items.{picked_items}
use Rattle.rings.specs.inner.Parts.{fault_at, least_found, position_shape, ring_shape, polygon_shape, Listing, is_array, judged_of, ring_judged, sum_over, found_in, tally_of}
use Rattle.rings.specs.declared.Field.{Field}
use Rattle.rings.specs.declared.Judged.{Judged}
use Rattle.rings.specs.declared.Tally.{Tally}
use Rattle.rings.proofs.Found.{least_append, least-one}
use Rattle.rings.proofs.Picked.{array-picked, other-picked, items-parts}
use Rattle.std.specs.Prelude.{Option}
use Rattle.fault.specs.declared.Fault.{Fault}

-- the definitions, as items after another
pub rings-found : (n : ℕ) (l : List Picked) → rings_found n l ≡ found_in ring item_count n l
unfolding rings_found found_in
rings-found n [] = refl
rings-found n (x ∷ l) = ap (λ (fs : List Found). ring n x ++ fs) (rings-found (n + item_count x) l)

pub item_total_lem : (l : List Picked) → item_total l ≡ sum_over item_count l
unfolding item_total sum_over
item_total_lem [] = refl
item_total_lem (x ∷ l) = ap (λ k. item_count x + k) (item_total_lem l)

pub polygons-found : (n : ℕ) (l : List Picked) → polygons_found n l ≡ found_in polygon polygon_positions n l
unfolding polygons_found found_in
polygons-found n [] = refl
polygons-found n (x ∷ l) = ap (λ (fs : List Found). polygon n x ++ fs) (polygons-found (n + polygon_positions x) l)

same-judged : {a b : Option Fault} {i j k l : ℕ} → a ≡ b → i ≡ j → k ≡ l
    → ◌≡◌ {A = Judged} (record { items = i; positions = k; least = a }) (record { items = j; positions = l; least = b })
same-judged e h o = λ i. record { items = h i; positions = o i; least = e i }

module _ {p : List ℕ} {x : Json} (w : Whole p x) (q : Field) (n : ℕ) where
  -- an item of a polygon
  pub ring-array : is_array (kind_at p) ≡ true → {r : Judged} → (Listing p → r ≡ ring_judged q n (picked_items position_shape p))
      → r ≡ judged_of q (ring n (pick ring_shape x)) (item_count (pick ring_shape x)) (item_count (pick ring_shape x))
  ring-array e h =
      let k = array-picked shape.positions ceiling.positions position_shape x w e in
      h k.listed.listing ∙ ap (ring_judged q n) (sym k.listed.parts)
      ∙ ap (λ y. judged_of q (ring n y) (item_count y) (item_count y)) (sym k.picks)

  pub ring-other : (found : Option Fault) → is_array (kind_at p) ≡ false → found ≡ fault_at q n wrong_type
      → record { items = 0; positions = 0; least = found } ≡ judged_of q (ring n (pick ring_shape x)) (item_count (pick ring_shape x)) (item_count (pick ring_shape x))
  ring-other found e f =
      let k = other-picked shape.positions ceiling.positions position_shape x w e in
      ap (λ z. record { items = 0; positions = 0; least = z }) (f ∙ sym (least-one q n wrong_type))
      ∙ ap (λ y. judged_of q (ring n y) (item_count y) (item_count y)) (sym k.1)

  -- an item of the coordinates
  pub polygon-array : {t : Tally} (found : Option Fault) → is_array (kind_at p) ≡ true → (Listing p → t ≡ tally_of q ring item_count item_count n (picked_items ring_shape p))
      → found ≡ lesser (least_found q (found_at n (unless (is_ring_count t.count) bad_ring))) t.least
      → record { items = t.count; positions = t.positions; least = found }
      ≡ judged_of q (polygon n (pick polygon_shape x)) (item_count (pick polygon_shape x)) (polygon_positions (pick polygon_shape x))
  unfolding count
  polygon-array {t} found e g f =
      let k = array-picked shape.positions ceiling.rings ring_shape x w e in
      let h = g k.listed.listing in let l = picked_items ring_shape p in
      let counted = found_at n (unless (is_ring_count (length l)) bad_ring) in
      same-judged
      (f ∙ ap (λ (z : Tally). lesser (least_found q (found_at n (unless (is_ring_count z.count) bad_ring))) z.least) h
      ∙ ap (λ fs. lesser (least_found q counted) (least_found q fs)) (sym (rings-found n l)) ∙ sym (least_append q counted (rings_found n l)))
      (ap (λ (z : Tally). z.count) h) (ap (λ (z : Tally). z.positions) h ∙ sym (item_total_lem l))
      ∙ ap (λ ps. judged_of q (found_at n (unless (is_ring_count (length ps)) bad_ring) ++ rings_found n ps) (length ps) (item_total ps)) (sym k.listed.parts)
      ∙ ap (λ y. judged_of q (polygon n y) (item_count y) (polygon_positions y)) (sym k.picks)

  pub polygon-other : (found : Option Fault) → is_array (kind_at p) ≡ false → found ≡ fault_at q n wrong_type
      → record { items = 0; positions = 0; least = found }
      ≡ judged_of q (polygon n (pick polygon_shape x)) (item_count (pick polygon_shape x)) (polygon_positions (pick polygon_shape x))
  unfolding item_total
  polygon-other found e f =
      let k = other-picked shape.positions ceiling.rings ring_shape x w e in
      ap (λ z. record { items = 0; positions = 0; least = z }) (f ∙ sym (least-one q n wrong_type))
      ∙ ap (λ y. judged_of q (polygon n y) (item_count y) (polygon_positions y)) (sym k.1)

abbrev counts : (m k : ℕ) → List Found
counts m k = found_at 0 (unless (are_zone_counts m k) too_many)

-- all of field 73
pub coordinates-found : (q : Field) {p : List ℕ} (t : Tally) → (Listing p → t ≡ tally_of q polygon item_count polygon_positions 1 (picked_items polygon_shape p))
    → (x : Json) (is : PickedItems) → Whole p x → pick coordinates x ≡ items is
    → lesser (least_found q (counts t.count t.items)) t.least ≡ least_found q (coordinates_found is)
unfolding coordinates_found count coordinates
coordinates-found q {p} t g x is w e =
    let k = items-parts shape.positions ceiling.polygons polygon_shape x is w e in let l = list_of is in
    ap (λ (z : Tally). lesser (least_found q (counts z.count z.items)) z.least) (g k.listing)
    ∙ ap (λ ps. lesser (least_found q (counts (length ps) (sum_over item_count ps))) (least_found q (found_in polygon polygon_positions 1 ps))) (sym k.parts)
    ∙ ap₂ lesser (ap (λ i. least_found q (counts (length l) i)) (sym (item_total_lem l))) (ap (least_found q) (sym (polygons-found 1 l)))
    ∙ sym (least_append q (counts (length l) (item_total l)) (polygons_found 1 l))
