-- The picked items of an array are those of its parts, one for one, each picked by its own bytes.
use mathlib.Core.Bool.{true, false}
use mathlib.Core.List.{List}
use mathlib.Core.Path.{◌≡◌, refl, sym, ap, subst, ◌∙◌}
use Prim.Native.Nat.{ℕ}
use native.Mathlib.Omega.{arith}
use Rattle.json_text.specs.Tree.{Json, Items}
use Rattle.walk.specs.Walk.{items_of}
use Rattle.walk.specs.Part.{Whole, part_tree, kind_of}
use Rattle.walk.specs.inner.Kind.{kind_at}
use Rattle.walk.proofs.Parts.{item_of}
use Rattle.walk.proofs.Wholes.{whole-kind}
use Rattle.walk.proofs.Trees.{array_parts}
use Rattle.schema.specs.Shape as shape
use Rattle.schema.specs.Shape.{Shape, Numbering}
use Rattle.schema.specs.Pick.{Picked, PickedItems, bare, items, pick_items, pick, list_of}
use Rattle.rings.specs.inner.Parts.{Listing, is_array}
use Rattle.document.specs.inner.Items.{picked_items}
use Rattle.document.proofs.Records.{list_each}

-- what is picked of the array p, as a list
pub record Listed (σ : Shape) (p : List ℕ) (l : List Picked) : Type 0 where
  pub listing : Listing p
  pub parts : l ≡ picked_items σ p

pub record ArrayPicked (ν : Numbering) (most : ℕ) (σ : Shape) (p : List ℕ) (x : Json) : Type 0 where
  pub list : PickedItems
  pub picks : pick (shape.array ν most σ) x ≡ items list
  pub listed : Listed σ p (list_of list)

module _ (ν : Numbering) (most : ℕ) (σ : Shape) {p : List ℕ} where
  parts-picked : {is : Items} → Whole p (Json.array is) → Listed σ p (list_of (pick_items (λ y. pick σ y) is))
  parts-picked {is} w =
      record {
        listing = record { whole = λ h. (is, w) };
        parts = ap (λ (js : Items). list_of (pick_items (λ y. pick σ y) js)) (array_parts p w) ∙ list_each (λ y. pick σ y) (items_of p) (λ m. part_tree (item_of p m));
      }

  pub array-picked : (x : Json) → Whole p x → is_array (kind_at p) ≡ true → ArrayPicked ν most σ p x
  unfolding pick
  array-picked x w e = go x w (ap is_array (sym (whole-kind w)) ∙ e)
    where
      other : {y : Json} → false ≡ true → ArrayPicked ν most σ p y
      other f = let z : ◌≡◌ {A = ℕ} 0 1 = cc in absurd (omega arith)

      go : (y : Json) → Whole p y → is_array (kind_of y) ≡ true → ArrayPicked ν most σ p y
      go Json.null v f = other f
      go (Json.boolean b) v f = other f
      go (Json.number s) v f = other f
      go (Json.string s) v f = other f
      go (Json.array is) v f = record { list = pick_items (λ y. pick σ y) is; picks = refl; listed = parts-picked v }
      go (Json.object ms) v f = other f

  pub other-picked : (x : Json) → Whole p x → is_array (kind_at p) ≡ false → (y : Json) × (pick (shape.array ν most σ) x ≡ bare y)
  unfolding pick
  other-picked x w e = go x (ap is_array (sym (whole-kind w)) ∙ e)
    where
      go : (y : Json) → is_array (kind_of y) ≡ false → (z : Json) × (pick (shape.array ν most σ) y ≡ bare z)
      go Json.null f = (_, refl)
      go (Json.boolean b) f = (_, refl)
      go (Json.number s) f = (_, refl)
      go (Json.string s) f = (_, refl)
      go (Json.array is) f = let z : ◌≡◌ {A = ℕ} 0 1 = cc in absurd (omega arith)
      go (Json.object ms) f = (_, refl)

  -- whatever is picked as items is picked of an array
  pub items-parts : (x : Json) (is : PickedItems) → Whole p x → pick (shape.array ν most σ) x ≡ items is → Listed σ p (list_of is)
  unfolding pick
  items-parts x is w e = go x w e
    where
      other : {y : Json} → bare y ≡ items is → Listed σ p (list_of is)
      other f = let z : ◌≡◌ {A = ℕ} 0 1 = cc in absurd (omega arith)

      go : (y : Json) → Whole p y → pick (shape.array ν most σ) y ≡ items is → Listed σ p (list_of is)
      go Json.null v f = other f
      go (Json.boolean b) v f = other f
      go (Json.number s) v f = other f
      go (Json.string s) v f = other f
      go (Json.array js) v f = let z : pick_items (λ y. pick σ y) js ≡ is = cc in subst (λ (js : PickedItems). Listed σ p (list_of js)) z (parts-picked v)
      go (Json.object ms) v f = other f
