-- Two judges of coordinates find the same in a file where they do in each of its coordinates, since nothing else in stage B asks them: of a shape without
-- coordinates they find the same in any value, and of an object in which one row has some, where they do in that row's field.
use mathlib.Core.Bool.{Bool, true, false}
use mathlib.Core.List.{List, [], ◌∷◌, ◌++◌, Memᴰ}
use mathlib.Core.Path.{◌≡◌, refl, ap, ap₂, ◌∙◌}
use Prim.Native.Nat.{ℕ, ◌+◌}
use lib.Dec.{eqb, leb}
use Rattle.notation.specs.Choice.{◌and◌}
use Rattle.notation.proofs.Booleans.{true-false, and_left, and_right}
use Rattle.word.specs.Kinds.{name_twice, too_many}
use Rattle.json_text.specs.Text.{syntax_of}
use Rattle.json_text.specs.Tree as tree
use Rattle.json_text.specs.Tree.{Json, Items, Members}
use Rattle.schema.specs.Shape as shape
use Rattle.schema.specs.Shape.{Shape, Rows, Need, Numbering}
use Rattle.schema.specs.Pick.{Picked, PickedItems, Slots, Slot, missing, once, twice, unless_blank, put, pick_items, pick, pick_rows, find, list_of, elements}
use Rattle.fault.specs.declared.Fault.{Fault}
use Rattle.fault.specs.Fault.{least, faulty}
use Rattle.fault.specs.Outcome.{outcome_of, or_next}
use Rattle.scalar.specs.Scalars.{unless}
use Rattle.rings.specs.Rings.{Found, count}
use Rattle.fault.specs.declared.Place.{Place}
use Rattle.judge.specs.Faults.{Judge, item_place, absence, each_item, array_faults, object_faults, slot_faults, faults_by, row_faults_by, file_faults_by}
use Rattle.document.specs.Document.{once_only, field, along}
use Rattle.document.proofs.Rows as fields
use Rattle.document.proofs.Rows.{Lists, over, at_row}
use Rattle.clean.specs.Clean.{tree_of, repeats, clean_by, syntax_outcome}
use Rattle.std.specs.Prelude.{Some}

-- no coordinates anywhere in it
abbrev plain_array : Numbering → Bool → Bool
plain_array shape.records plain = plain
plain_array shape.subs plain = plain
plain_array shape.outer plain = plain
plain_array shape.positions plain = false

unfoldable mutual
  pub plain : Shape → Bool
  plain shape.unlisted = true
  plain (shape.scalar sort) = true
  plain (shape.array numbering most σ) = plain_array numbering (plain σ)
  plain (shape.object rows) = plain_rows rows

  pub plain_rows : Rows → Bool
  plain_rows shape.no_row = true
  plain_rows (shape.row field need name σ rows) = plain σ and plain_rows rows

-- the first row of the field f has this name and shape, and no other row has coordinates
pub data Only (f : ℕ) (name : List ℕ) (σ : Shape) : Rows → Type 0 where
  here : {need : Need} {rows : Rows} → plain_rows rows ≡ true → Only f name σ (shape.row f need name σ rows)
  below : {g : ℕ} {need : Need} {n : List ℕ} {τ : Shape} {rows : Rows} → eqb f g ≡ false → plain τ ≡ true → Only f name σ rows → Only f name σ (shape.row g need n τ rows)

lists : {f : ℕ} {name : List ℕ} {σ : Shape} {rows : Rows} → Only f name σ rows → Lists f name σ rows
lists (here p) = fields.here
lists (below e p o) = fields.below e (lists o)

-- such rows that lead on
pub data Route : Shape → List ℕ → Shape → Type 0 where
  arrived : {σ : Shape} → Route σ [] σ
  into : {f : ℕ} {name : List ℕ} {σ τ : Shape} {rows : Rows} {fs : List ℕ} → Only f name σ rows → Route σ fs τ → Route (shape.object rows) (f ∷ fs) τ

module _ (f g : PickedItems → List Found) where
  -- the same is found in a value
  abbrev pub Same : Shape → Picked → Type 0
  Same σ x = (p : Place) (φ : ℕ) → faults_by f σ p φ x ≡ faults_by g σ p φ x

  abbrev SameRows : Rows → Slots → Type 0
  SameRows rows ss = (p : Place) → row_faults_by f rows p ss ≡ row_faults_by g rows p ss

  mutual
    unfolding faults_by plain

    pub plain-same : (σ : Shape) → plain σ ≡ true → (x : Picked) → Same σ x
    plain-same shape.unlisted e x p φ = refl
    plain-same (shape.scalar sort) e x p φ = refl
    plain-same (shape.array shape.records most σ) e x p φ = ap (λ (judge : Judge). array_faults judge shape.records most p φ x) (λ i q ψ y. plain-same σ e y q ψ i)
    plain-same (shape.array shape.subs most σ) e x p φ = ap (λ (judge : Judge). array_faults judge shape.subs most p φ x) (λ i q ψ y. plain-same σ e y q ψ i)
    plain-same (shape.array shape.outer most σ) e x p φ = ap (λ (judge : Judge). array_faults judge shape.outer most p φ x) (λ i q ψ y. plain-same σ e y q ψ i)
    plain-same (shape.array shape.positions most σ) e x p φ = true-false e refl
    plain-same (shape.object rows) e x p φ = ap (λ (judge : Place → Slots → List Fault). object_faults judge p φ x) (λ i q ss. plain-rows-same rows e ss q i)

    plain-rows-same : (rows : Rows) → plain_rows rows ≡ true → (ss : Slots) → SameRows rows ss
    plain-rows-same shape.no_row e ss p = refl
    plain-rows-same (shape.row field need name σ rows) e ss p =
        ap₂ (λ (judge : Judge) (rest : Place → Slots → List Fault). slot_faults judge need p field rest ss)
        (λ i q ψ y. plain-same σ (and_left (plain σ) (plain_rows rows) e) y q ψ i)
        (λ i q rest. plain-rows-same rows (and_right (plain σ) (plain_rows rows) e) rest q i)

  -- a row, by its slot and the rows below
  slot_same : (h : ℕ) (need : Need) (name : List ℕ) (σ : Shape) (rows : Rows) (o : Slot Json) (ss : Slots) → ((z : Json) → o ≡ once z → Same σ (pick σ z))
      → SameRows rows ss → SameRows (shape.row h need name σ rows) (put h (λ y. pick σ y) o ss)
  unfolding row_faults_by
  slot_same h need name σ rows missing ss k r p = ap (λ (l : List Fault). faulty p h (absence need) ++ l) (r p)
  slot_same h need name σ rows (once z) ss k r p = ap₂ (λ (l m : List Fault). l ++ m) (k z refl p h) (r p)
  slot_same h need name σ rows twice ss k r p = ap (λ (l : List Fault). faulty p h (name_twice ∷ []) ++ l) (r p)

  rows_same : {h : ℕ} {name : List ℕ} {σ : Shape} {rows : Rows} → Only h name σ rows → (ms : Members)
      → ((z : Json) → unless_blank (find name ms) ≡ once z → Same σ (pick σ z)) → SameRows rows (pick_rows rows ms)
  unfolding pick_rows
  rows_same {h} {name} {σ} (here {need = need} {rows = rows} e) ms k =
      slot_same h need name σ rows (unless_blank (find name ms)) (pick_rows rows ms) k (plain-rows-same rows e (pick_rows rows ms))
  rows_same (below {g = j} {need = need} {n = n} {τ = τ} {rows = rows} d e o) ms k =
      slot_same j need n τ rows (unless_blank (find n ms)) (pick_rows rows ms) (λ z i. plain-same τ e (pick τ z)) (rows_same o ms k)

  object-same : {h : ℕ} {name : List ℕ} {σ : Shape} {rows : Rows} → Only h name σ rows → (x : Json)
      → ((z : Json) → field h (pick (shape.object rows) x) ≡ Some (pick σ z) → Same σ (pick σ z)) → Same (shape.object rows) (pick (shape.object rows) x)
  unfolding faults_by pick field
  object-same {σ = σ} o (tree.object ms) k p φ =
      rows_same o ms (λ z e. k z (ap once_only (at_row (lists o) ms) ∙ ap (λ (s : Slot Json). once_only (over (pick σ) s)) e)) p
  object-same o tree.null k p φ = refl
  object-same o (tree.boolean b) k p φ = refl
  object-same o (tree.number s) k p φ = refl
  object-same o (tree.string s) k p φ = refl
  object-same o (tree.array is) k p φ = refl

  pub way_same : {σ τ : Shape} {fs : List ℕ} → Route σ fs τ → (x : Json) → ((z : Json) → along fs (pick σ x) ≡ Some (pick τ z) → Same τ (pick τ z)) → Same σ (pick σ x)
  unfolding along
  way_same arrived x k = k x refl
  way_same (into o w) x k = object-same o x (λ z e. way_same w z (λ y h. k y (rw (along, e) h)))

  -- an array of records, item by item
  items-same : (σ : Shape) (is : Items) (n : ℕ) → ((z : Json) → Memᴰ (pick σ z) (list_of (pick_items (λ y. pick σ y) is)) → Same σ (pick σ z)) → (p : Place) (φ : ℕ)
      → each_item (λ q ψ y. faults_by f σ q ψ y) shape.records p φ n (pick_items (λ y. pick σ y) is)
      ≡ each_item (λ q ψ y. faults_by g σ q ψ y) shape.records p φ n (pick_items (λ y. pick σ y) is)
  unfolding each_item pick_items list_of
  items-same σ tree.no_item n k p φ = refl
  items-same σ (tree.item x is) n k p φ =
      ap₂ (λ (l m : List Fault). l ++ m) (k x (Memᴰ.head refl) (item_place shape.records (n + 1) p) φ)
      (items-same σ is (n + 1) (λ z i. k z (Memᴰ.tail i)) p φ)

  pub records-same : (most : ℕ) (σ : Shape) (x : Json)
      → ((z : Json) → Memᴰ (pick σ z) (elements (pick (shape.array shape.records most σ) x)) → Same σ (pick σ z))
      → Same (shape.array shape.records most σ) (pick (shape.array shape.records most σ) x)
  unfolding faults_by pick
  records-same most σ (tree.array is) k p φ =
      ap (λ (l : List Fault). faulty p φ (unless (leb (count (pick_items (λ y. pick σ y) is)) most) too_many) ++ l) (items-same σ is 0 k p φ)
  records-same most σ tree.null k p φ = refl
  records-same most σ (tree.boolean b) k p φ = refl
  records-same most σ (tree.number s) k p φ = refl
  records-same most σ (tree.string s) k p φ = refl
  records-same most σ (tree.object ms) k p φ = refl

  -- a file in which they find the same is clean by both, or breaks the same rule first
  pub clean-alike : (σ : Shape) (file : ℕ) (s : List ℕ) → file_faults_by f σ (tree_of s) ≡ file_faults_by g σ (tree_of s) → clean_by f σ file s ≡ clean_by g σ file s
  unfolding clean_by
  clean-alike σ file [] e = refl
  clean-alike σ file (b ∷ s) e =
      ap (λ (l : List Fault). or_next (syntax_outcome file (syntax_of (b ∷ s)))
      (or_next (outcome_of file (least l)) (outcome_of file (least (repeats σ (pick σ (tree_of (b ∷ s)))))))) e
