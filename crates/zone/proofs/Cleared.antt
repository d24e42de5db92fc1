-- In a zone without a fault nothing is found in its coordinates, so nothing in any polygon or ring of it; its geometry and its properties are there,
-- whole.
use mathlib.Core.List.Memᴰ
use mathlib.Core.List.{List, [], ◌∷◌, append-eq-nil_iff, Memᴰ}
use mathlib.Core.Logic.{⊎_elim}
use mathlib.Core.Path.{◌≡◌, refl, sym, ap, subst, ◌∙◌}
use Prim.Native.Nat.{ℕ, ◌+◌, ◌≤◌}
use native.Mathlib.Omega.{arith}
use lib.ListN.{length}
use Rattle.limits.specs.Ceilings as ceiling
use Rattle.notation.specs.Ascii.{bytes}
use Rattle.notation.proofs.Lists.{cons_nil}
use Rattle.notation.proofs.Options.{none-some}
use Rattle.walk.specs.declared.Item.{Item}
use Rattle.walk.specs.Walk.{items_of}
use Rattle.walk.specs.Part.{Whole, part_tree}
use Rattle.walk.proofs.Wholes.{whole-tree}
use Rattle.walk.proofs.Parts.{item_of, items-whole}
use Rattle.schema.specs.Shape as shape
use Rattle.schema.specs.Shape.{Shape, Rows}
use Rattle.schema.specs.Table23.{zone, coordinates}
use Rattle.schema.specs.Pick.{Picked, PickedItems, bare, items, slots, pick, list_of, elements}
use Rattle.word.specs.Kinds.{too_many, bad_ring}
use Rattle.scalar.specs.Scalars.{unless}
use Rattle.rings.specs.Rings.{found_at, count, ring, ring_found, rings_found, is_ring_count, item_count, polygon, polygon_positions, item_total, polygons_found, are_zone_counts, coordinates_found, all_sound}
use Rattle.rings.proofs.Found.{numbered-none}
use Rattle.rings.specs.inner.Parts.{ring_shape, polygon_shape, position_shape, Listing}
use Rattle.document.specs.inner.Items.{picked, picked_items}
use Rattle.rings.proofs.Picked.{Listed, items-parts}
use Rattle.rings.proofs.Areas.{clean-ring}
use Rattle.fault.specs.declared.Place.{Place}
use Rattle.judge.specs.Faults.{faults_by, faults}
use Rattle.fault.specs.Fault.{faulty}
use Rattle.document.specs.Document.{elements_of, field, along}
use Rattle.document.proofs.Ways.{Requires, here, below, lists, Leads, arrived, into}
use Rattle.document.specs.inner.Values.{member_of}
use Rattle.document.proofs.Sizes.{part-short, member-short, array-short}
use Rattle.document.proofs.Values.{Holds, member-holds}
use Rattle.clean.proofs.Faultless.{demands_there}
use Rattle.zone.specs.inner.Clean.{CleanRing, CleanItems, CleanZone, CleanZones}
use Rattle.zone.proofs.Fields.{member-listing}
use Rattle.zone.proofs.Zoned.{polygon_bytes, property_bytes, zone-polygons}
use mathlib.Core.Bool.{true}
use Rattle.std.specs.Prelude.{Option, None, Some}

-- what is no array is of a wrong type
ring-items : (n : ℕ) (x : Picked) → ring n x ≡ [] → (is : PickedItems) × (x ≡ items is) × (ring_found n (list_of is) ≡ [])
unfolding found_at
ring-items n (items is) e = (is, refl, e)
ring-items n (bare x) e = cons_nil e
ring-items n (slots ss) e = cons_nil e

-- the positions of a ring in which nothing is found: all are sound, and not too many
pub record SoundRing (p : List ℕ) : Type 0 where
  pub listing : Listing p
  pub few : length (picked_items position_shape p) ≤ ceiling.positions
  pub each : all_sound (picked_items position_shape p) ≡ true
  pub are : picked_items position_shape p ≡ elements (pick ring_shape (part_tree p))

pub ring-sound : {p : List ℕ} → CleanRing p → SoundRing p
ring-sound {p} c =
    let r = ring-items c.first (pick ring_shape (part_tree p)) c.clear in
    let k = items-parts shape.positions ceiling.positions position_shape (part_tree p) r.0 c.whole r.1 in
    let d = clean-ring c.first (list_of r.0) r.2 in
    record {
      listing = k.listing;
      few = subst (λ (l : List Picked). length l ≤ ceiling.positions) k.parts d.most;
      each = subst (λ (l : List Picked). all_sound l ≡ true) k.parts d.each;
      are = sym (ap elements r.1 ∙ k.parts);
    }

polygon-items : (n : ℕ) (x : Picked) → polygon n x ≡ [] → (is : PickedItems) × (x ≡ items is) × (rings_found n (list_of is) ≡ [])
unfolding found_at
polygon-items n (items is) e = (is, refl, ((append-eq-nil_iff {p = found_at n (unless (is_ring_count (count is)) bad_ring)}).0 e).1)
polygon-items n (bare x) e = cons_nil e
polygon-items n (slots ss) e = cons_nil e

coordinates-clear : (p : Place) (field : ℕ) (x : Picked) → faults coordinates p field x ≡ [] → polygons_found 1 (elements x) ≡ []
unfolding coordinates faults_by faulty coordinates_found
coordinates-clear p field (items is) e =
    let many = found_at 0 (unless (are_zone_counts (count is) (item_total (list_of is))) too_many) in
    ((append-eq-nil_iff {p = many}).0 (numbered-none p.«record» field (coordinates_found is) e)).1
coordinates-clear p field (bare x) e = cons_nil e
coordinates-clear p field (slots ss) e = cons_nil e

-- an item of an array
item-short : (p : List ℕ) (m : Item) → length p ≤ ceiling.file_bytes → length (item_of p m) ≤ ceiling.file_bytes
item-short p m h = omega (arith, part-short p m.value m.value_end)

-- where nothing is found in a list, nothing is in one of it
rings-each : (n : ℕ) (l : List Picked) → rings_found n l ≡ [] → (x : Picked) → Memᴰ x l → (k : ℕ) × (ring k x ≡ [])
unfolding rings_found
rings-each n [] e x i = absurd (Memᴰ.not-nil i)
rings-each n (y ∷ l) e x i =
    let both = (append-eq-nil_iff {p = ring n y}).0 e in let ih = rings-each (n + item_count y) l both.1 x in
    ⊎_elim (λ h. (n, subst (λ (z : Picked). ring n z ≡ []) (sym h) both.0)) ih (Memᴰ.cases_cons i)

polygons-each : (n : ℕ) (l : List Picked) → polygons_found n l ≡ [] → (x : Picked) → Memᴰ x l → (k : ℕ) × (polygon k x ≡ [])
unfolding polygons_found
polygons-each n [] e x i = absurd (Memᴰ.not-nil i)
polygons-each n (y ∷ l) e x i =
    let both = (append-eq-nil_iff {p = polygon n y}).0 e in let ih = polygons-each (n + polygon_positions y) l both.1 x in
    ⊎_elim (λ h. (n, subst (λ (z : Picked). polygon n z ≡ []) (sym h) both.0)) ih (Memᴰ.cases_cons i)

module _ {p : List ℕ} {m : Item} (i : Memᴰ m (items_of p)) where
  pub ring-clean : CleanItems ring_shape rings_found p → CleanRing (item_of p m)
  ring-clean c =
      let f = rings-each c.first (picked_items ring_shape p) c.clear (picked ring_shape p m) (Memᴰ.map (picked ring_shape p) i) in
      record { short = item-short p m c.short; whole = items-whole p m i; first = f.0; clear = f.1 }

  pub zone-clean : CleanZones p → CleanZone (item_of p m)
  zone-clean c = record { short = item-short p m c.short; whole = items-whole p m i; clear = c.clear (picked zone p m) (Memᴰ.map (picked zone p) i) }

  module _ (c : CleanItems polygon_shape polygons_found p) where
    polygon-found : (n : ℕ) × (polygon n (picked polygon_shape p m) ≡ [])
    polygon-found = polygons-each c.first (picked_items polygon_shape p) c.clear (picked polygon_shape p m) (Memᴰ.map (picked polygon_shape p) i)

    polygon-is : (is : PickedItems) × (picked polygon_shape p m ≡ items is) × (rings_found polygon-found.0 (list_of is) ≡ [])
    polygon-is = polygon-items polygon-found.0 (picked polygon_shape p m) polygon-found.1

    rings-are : Listed ring_shape (item_of p m) (list_of polygon-is.0)
    rings-are = items-parts shape.positions ceiling.rings ring_shape (part_tree (item_of p m)) polygon-is.0 (items-whole p m i) polygon-is.1

    pub polygon-rings : picked_items ring_shape (item_of p m) ≡ elements (picked polygon_shape p m)
    polygon-rings = sym (ap elements polygon-is.1 ∙ rings-are.parts)

    pub polygon-clean : CleanItems ring_shape rings_found (item_of p m)
    polygon-clean =
        record {
          short = item-short p m c.short;
          listing = rings-are.listing;
          first = polygon-found.0;
          clear = ap (rings_found polygon-found.0) (sym rings-are.parts) ∙ polygon-is.2;
        }

-- a member that the zone must have is there
given-whole : (σ : Shape) {q : List ℕ} {y : Picked} (o : Option Picked) → Holds σ q o → elim o [ None ↦ None | Some z ↦ Some z ] ≡ Some y → Whole q (part_tree q)
given-whole σ None h e = none-some e
given-whole σ {q} (Some z) h e = subst (Whole q) (sym (whole-tree h.1)) h.1

required_whole : {f : ℕ} {name : List ℕ} {σ : Shape} {rows : Rows} → Requires f name σ rows → {p : List ℕ} → Whole p (part_tree p) → (q : Place) (φ : ℕ)
    → faults (shape.object rows) q φ (pick (shape.object rows) (part_tree p)) ≡ [] → Whole (member_of p name) (part_tree (member_of p name))
unfolding along
required_whole {f} {σ = σ} {rows = rows} r {p} w q φ e =
    given-whole σ (field f (pick (shape.object rows) (part_tree p))) (member-holds (lists r) p (part_tree p) w) (demands_there (into r arrived) q φ (part_tree p) e).2

module _ {p : List ℕ} (c : CleanZone p) where
  pub geometry_whole : Whole (member_of p (bytes "geometry")) (part_tree (member_of p (bytes "geometry")))
  unfolding zone
  geometry_whole = required_whole {f = 71} (below refl here) c.whole c.clear.place c.clear.field c.clear.clear

  pub properties-whole : Whole (property_bytes p) (part_tree (property_bytes p))
  unfolding zone
  properties-whole = required_whole {f = 74} (below refl (below refl here)) c.whole c.clear.place c.clear.field c.clear.clear

-- the coordinates of a zone
coordinates-demanded : Leads zone (record { field = 71; name = bytes "geometry" } ∷ record { field = 73; name = bytes "coordinates" } ∷ []) coordinates
unfolding zone
coordinates-demanded = into (below refl here) (into (below refl here) arrived)

pub coordinates-clean : (p : List ℕ) → CleanZone p → CleanItems polygon_shape polygons_found (polygon_bytes p)
coordinates-clean p c =
    let inner = member_of p (bytes "geometry") in
    let deep = member_of inner (bytes "coordinates") in
    let d = demands_there coordinates-demanded c.clear.place c.clear.field (part_tree p) c.clear.clear in
    record {
      short = omega (arith, array-short deep, member-short inner (bytes "coordinates"), member-short p (bytes "geometry"), c.short);
      listing = member-listing inner (bytes "coordinates");
      first = 1;
      clear =
          ap (polygons_found 1) (zone-polygons c.whole ∙ ap elements_of d.2)
          ∙ coordinates-clear c.clear.place d.1 (pick coordinates d.0) d.3;
    }
