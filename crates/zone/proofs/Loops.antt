-- What the loops of this crate make of the items of the array p that are left: of ids for a type, of rings and polygons for a point, of rules what they give a
-- type, of zones what their rules give. And what one item says to it.
use mathlib.Core.Bool.{Bool, true, false}
use mathlib.Core.List.{List, [], ◌∷◌, map}
use mathlib.Core.Path.{◌≡◌, refl}
use Prim.Native.Nat.{ℕ}
use native.Mathlib.Omega.{arith}
use Rattle.walk.specs.declared.Item.{Item}
use Rattle.walk.specs.Walk.{items_of}
use Rattle.schema.specs.Table23 as table
use Rattle.schema.specs.Pick.{Picked, elements}
use Rattle.geometry.specs.Ring.{Point}
use Rattle.geometry.proofs.Holed.{held_from, from_first}
use Rattle.rings.specs.inner.Parts.{ring_shape, polygon_shape}
use Rattle.document.specs.inner.Items.{picked, picked_items}
use Rattle.document.specs.Document.{text_in}
use Rattle.document.specs.inner.Values.{is_id}
use Rattle.zone.specs.declared.Given.{Given}
use Rattle.zone.specs.Zone.{outline, rings_hold, polygons_hold_by, polygons_hold, any_text, rules}
use Rattle.zone.specs.inner.Values.{id_shape}
use Rattle.zone.proofs.Combining.{with_rules}
use Rattle.std.specs.Prelude.{Option, None, Some}

module _ (p : List ℕ) where
  abbrev pub ids : (type : List ℕ) → List Item → Bool
  ids type ms = any_text (map (picked id_shape p) ms) type

  abbrev pub rings : Point → (first held : Bool) → List Item → Bool
  rings q first held ms = held_from first held (map outline (map (picked ring_shape p) ms)) q

  pub rings-all : (q : Point) → rings q true false (items_of p) ≡ rings_hold (picked_items ring_shape p) q
  unfolding rings_hold
  rings-all q = from_first (map outline (map (picked ring_shape p) (items_of p))) q

  abbrev pub polygons : Point → List Item → Bool
  polygons q ms = polygons_hold (map (picked polygon_shape p) ms) q

  abbrev pub rules_for : (type : List ℕ) → Given → List Item → Given
  rules_for type a ms = with_rules type a (map (picked table.rule p) ms)

  abbrev pub zones_for : (type : List ℕ) → Point → (moment : ℕ) → Given → List Item → Given
  zones_for type q moment a ms = with_rules type a (rules (map (picked table.zone p) ms) q moment)

module _ (type : List ℕ) where
  pub any_none : any_text [] type ≡ false
  unfolding any_text
  any_none = refl

  pub any_here : (x : Picked) (l : List Picked) → is_id type (text_in x) ≡ true → any_text (x ∷ l) type ≡ true
  unfolding any_text
  any_here x l e = go (text_in x) refl e
    where
      go : (o : Option (List ℕ)) → text_in x ≡ o → is_id type o ≡ true → any_text (x ∷ l) type ≡ true
      go None h i = let z : ◌≡◌ {A = ℕ} 0 1 = cc in absurd (omega arith)
      go (Some t) h i = rw (any_text, h, i)

  pub any-later : (x : Picked) (l : List Picked) → is_id type (text_in x) ≡ false → any_text (x ∷ l) type ≡ any_text l type
  unfolding any_text
  any-later x l e = go (text_in x) refl e
    where
      go : (o : Option (List ℕ)) → text_in x ≡ o → is_id type o ≡ false → any_text (x ∷ l) type ≡ any_text l type
      go None h i = rw (any_text, h)
      go (Some t) h i = rw (any_text, h, i)

module _ (q : Point) where
  pub polygons-none : polygons_hold [] q ≡ false
  unfolding polygons_hold_by
  polygons-none = refl

  pub polygons-here : (x : Picked) (l : List Picked) → rings_hold (elements x) q ≡ true → polygons_hold (x ∷ l) q ≡ true
  unfolding polygons_hold_by
  polygons-here x l e = rw (polygons_hold_by, e)

  pub polygons-later : (x : Picked) (l : List Picked) → rings_hold (elements x) q ≡ false → polygons_hold (x ∷ l) q ≡ polygons_hold l q
  unfolding polygons_hold_by
  polygons-later x l e = rw (polygons_hold_by, e)
