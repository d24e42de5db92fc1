-- Of arrays that lie so deep in one another and hold single values the same is picked, whatever the table says of them. So field 73 is
-- judged by the one shape that coordinates have.
use mathlib.Core.Bool.{true}
use mathlib.Core.List.{List}
use mathlib.Core.Path.{◌≡◌, refl, sym, ap, ap₂, ◌∙◌}
use Prim.Native.Char.{code}
use Prim.Native.Nat.{ℕ, zero, suc}
use native.Mathlib.Omega.{arith}
use Rattle.notation.proofs.Booleans.{true-false}
use Rattle.json_text.specs.Tree as tree
use Rattle.json_text.specs.Tree.{Json, Items}
use Rattle.walk.specs.Part.{Whole}
use Rattle.schema.specs.declared.Line.{Line}
use Rattle.schema.specs.Shape as shape
use Rattle.schema.specs.Shape.{Shape, Numbering}
use Rattle.schema.specs.inner.Line.{line_at, numbering_letter}
use Rattle.schema.specs.Pick.{Picked, PickedItems, bare, items, item, emptied, in_array, pick_items, pick}
use Rattle.schema.specs.Table23.{coordinates}
use Rattle.schema.specs.Tables.{sheets}
use Rattle.fault.specs.Fault.{least}
use Rattle.fault.specs.declared.Place.{Place}
use Rattle.judge.specs.Faults.{coordinate_faults, faults_by, faults}
use Rattle.judge.specs.inner.Judgeable.{arrays, judgeable}
use Rattle.judge.specs.inner.Judged.{Array}
use Rattle.judge.proofs.Lines.{line-field, line-numbering}
use Rattle.std.specs.Prelude.{Option}
use Rattle.fault.specs.declared.Fault.{Fault}

each_same : (f g : Json → Picked) → ((x : Json) → f x ≡ g x) → (is : Items) → pick_items f is ≡ pick_items g is
unfolding pick_items
each_same f g h tree.no_item = refl
each_same f g h (tree.item x is) = ap₂ item (h x) (each_same f g h is)

in_same : (f g : Items → PickedItems) → ((is : Items) → f is ≡ g is) → (x : Json) → in_array f x ≡ in_array g x
in_same f g h tree.null = refl
in_same f g h (tree.boolean b) = refl
in_same f g h (tree.number s) = refl
in_same f g h (tree.string s) = refl
in_same f g h (tree.array is) = ap items (h is)
in_same f g h (tree.object ms) = refl

single-picked : (σ : Shape) → arrays σ 0 ≡ true → (x : Json) → pick σ x ≡ bare (emptied x)
unfolding arrays pick
single-picked shape.unlisted e x = refl
single-picked (shape.scalar sort) e x = refl
single-picked (shape.array numbering most σ) e x = true-false e refl
single-picked (shape.object rows) e x = true-false e refl

record Opens (n : ℕ) (σ : Shape) : Type 0 where
  numbering : Numbering
  most : ℕ
  inner : Shape
  is : σ ≡ shape.array numbering most inner
  deep : arrays inner n ≡ true

opens : (n : ℕ) (σ : Shape) → arrays σ (suc n) ≡ true → Opens n σ
unfolding arrays
opens n shape.unlisted e = true-false e refl
opens n (shape.scalar sort) e = true-false e refl
opens n (shape.array numbering most σ) e = record { numbering = numbering; most = most; inner = σ; is = refl; deep = e }
opens n (shape.object rows) e = true-false e refl

array-picked : (σ τ : Shape) → ((x : Json) → pick σ x ≡ pick τ x) → (a b : Numbering) (m n : ℕ) (x : Json) → pick (shape.array a m σ) x ≡ pick (shape.array b n τ) x
unfolding pick
array-picked σ τ h a b m n x = in_same _ _ (each_same _ _ h) x

nested_picked : (n : ℕ) (σ τ : Shape) → arrays σ n ≡ true → arrays τ n ≡ true → (x : Json) → pick σ x ≡ pick τ x
nested_picked zero σ τ s t x = single-picked σ s x ∙ sym (single-picked τ t x)
nested_picked (suc n) σ τ s t x =
    let a = opens n σ s in
    let b = opens n τ t in
    ap (λ (z : Shape). pick z x) a.is
    ∙ array-picked a.inner b.inner (nested_picked n a.inner b.inner a.deep b.deep) a.numbering b.numbering a.most b.most x
    ∙ ap (λ (z : Shape). pick z x) (sym b.is)

position-faults : (numbering : Numbering) → numbering_letter numbering ≡ code "p" → (most : ℕ) (σ : Shape) (level : ℕ) → judgeable (shape.array numbering most σ) level ≡ true →
    (q : Place) (φ : ℕ) (x : Json) → coordinate_faults q φ (pick coordinates x) ≡ faults (shape.array numbering most σ) q φ (pick (shape.array numbering most σ) x)
unfolding judgeable faults_by arrays coordinates
position-faults shape.records h most σ level e q φ x = absurd (omega arith)
position-faults shape.subs h most σ level e q φ x = absurd (omega arith)
position-faults shape.outer h most σ level e q φ x = absurd (omega arith)
position-faults shape.positions h most σ level e q φ x =
    ap (coordinate_faults q φ) (nested_picked 4 coordinates (shape.array shape.positions most σ) refl e x)

module _ {p : List ℕ} {i : ℕ} {q : Place} {level : ℕ} {r : Option Fault} {line : Line} where
  pub array-positions : line ≡ line_at sheets i → line.numbering ≡ code "p" →
      ((x : Json) → Whole p x → r ≡ least (coordinate_faults q line.field (pick coordinates x))) → Array p i q level r
  array-positions at v h =
      record {
        is = λ a e x w.
            h x w ∙ ap (λ (φ : ℕ). least (coordinate_faults q φ (pick coordinates x))) (ap (λ (z : Line). z.field) at ∙ line-field a.row)
            ∙ ap least
            (position-faults a.numbering (sym (ap (λ (z : Line). z.numbering) at ∙ line-numbering a) ∙ v) a.most a.item level e q a.row.field x);
      }
