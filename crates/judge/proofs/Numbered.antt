-- The value of field 73: an array is judged by its positions, and what is none has the wrong type.
use mathlib.Core.List.{List, [], ◌∷◌}
use mathlib.Core.Path.{◌≡◌, refl, sym, ap, subst, ◌∙◌}
use Prim.Native.Char.{code}
use Prim.Native.Nat.{ℕ}
use lib.ListN.{take}
use Rattle.word.specs.Kinds.{wrong_type}
use Rattle.json_text.specs.Tree as tree
use Rattle.json_text.specs.Tree.{Json}
use Rattle.walk.specs.Part.{Whole, kind_of}
use Rattle.walk.specs.inner.Kind.{kind_at}
use Rattle.schema.specs.Pick.{PickedItems, items, pick}
use Rattle.schema.specs.Table23.{coordinates}
use Rattle.fault.specs.Fault.{least, faulty}
use Rattle.rings.specs.Rings.{numbered, coordinates_found}
use Rattle.fault.specs.declared.Place.{Place}
use Rattle.judge.specs.Faults.{coordinate_faults}
use Rattle.judge.specs.inner.Judged.{brackets_of}
use Rattle.judge.proofs.Lines.{whole-brackets, whole-items}
use Rattle.std.specs.Prelude.{Option}
use Rattle.fault.specs.declared.Fault.{Fault}

module _ (q : Place) (φ : ℕ) where
  pub positions-are : (p : List ℕ) (n : ℕ) {b : ℕ} {r : Option Fault} → b ≡ brackets_of (kind_at p) → b ≡ code "[" →
      ((x : Json) (is : PickedItems) → Whole (take n p) x → pick coordinates x ≡ items is → r ≡ least (numbered q.«record» φ (coordinates_found is))) →
      (x : Json) → Whole (take n p) x → r ≡ least (coordinate_faults q φ (pick coordinates x))
  unfolding coordinates pick
  positions-are p n b c h x w =
      let m = whole-items p n w (sym b ∙ c) in
      h _ _ (subst (Whole (take n p)) m.1 w) refl ∙ ap (λ (y : Json). least (coordinate_faults q φ (pick coordinates y))) (sym m.1)

  pub no-positions : (p : List ℕ) (n : ℕ) {b : ℕ} {r : Option Fault} → b ≡ brackets_of (kind_at p) → (b ≡ code "[" → ⊥) → r ≡ least (faulty q φ (wrong_type ∷ [])) →
      (x : Json) → Whole (take n p) x → r ≡ least (coordinate_faults q φ (pick coordinates x))
  unfolding coordinates pick
  no-positions p n b other h x w = h ∙ ap least (go x (λ e. other (b ∙ whole-brackets p n w ∙ e)))
    where
      go : (y : Json) → (brackets_of (kind_of y) ≡ code "[" → ⊥) → faulty q φ (wrong_type ∷ []) ≡ coordinate_faults q φ (pick coordinates y)
      go tree.null m = refl
      go (tree.boolean b) m = refl
      go (tree.number s) m = refl
      go (tree.string s) m = refl
      go (tree.array is) m = absurd (m refl)
      go (tree.object ms) m = refl
