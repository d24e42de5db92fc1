-- What a file without a fault of stage B is sure to hold: each required member once, of its shape, and so an array of records, no more than
-- the ceiling, in each of which no fault is found either. And of a row of any need: its field is not there, or faultless.
use mathlib.Core.Bool.{Bool, true, false}
use mathlib.Core.List.Memᴰ
use mathlib.Core.List.{List, [], ◌∷◌, ◌++◌, map, Memᴰ}
use mathlib.Core.Logic.{◌⊎◌, inl, inr, ⊎_elim}
use mathlib.Core.Path.{◌≡◌, refl, sym, ap, ◌∙◌}
use Prim.Native.Nat.{ℕ, ◌+◌, ◌≤◌}
use native.Mathlib.Omega.{arith}
use lib.Dec.{leb}
use lib.ListN.{length}
use borrow.Author.Tests.{leb-true}
use Rattle.notation.proofs.Lists.{cons_nil}
use Rattle.word.specs.Kinds.{name_twice, too_many}
use Rattle.json_text.specs.Tree as tree
use Rattle.json_text.specs.Tree.{Json, Members}
use Rattle.schema.specs.Shape as shape
use Rattle.schema.specs.Shape.{Shape, Rows, Need, Numbering}
use Rattle.schema.specs.Records.{Key}
use Rattle.schema.specs.Pick.{Picked, PickedItems, items, no_item, item, Slots, Slot, missing, once, twice, unless_blank, put, pick_items, pick, pick_rows, find, list_of}
use Rattle.fault.specs.declared.Fault.{Fault}
use Rattle.scalar.specs.Scalars.{unless}
use Rattle.rings.specs.Rings as rings
use Rattle.fault.specs.declared.Place.{Place}
use Rattle.judge.specs.Faults.{Judge, absence, item_place, by_numbering, each_item, coordinate_faults, slot_faults, faults_by, faults, row_faults_by, row_faults}
use Rattle.fault.specs.Fault.{faulty}
use Rattle.document.specs.Document.{once_only, field, field_items, along}
use Rattle.document.proofs.Rows as fields
use Rattle.document.proofs.Rows.{Lists, over, at_row}
use Rattle.document.proofs.Ways.{Requires, here, below, lists, Leads, arrived, into}
use Rattle.std.specs.Prelude.{None, Some}

-- where nothing is in two lists together, nothing is in either
pub none_left : {A : Type 0} (xs ys : List A) → xs ++ ys ≡ [] → xs ≡ []
none_left [] ys e = refl
none_left (x ∷ xs) ys e = cons_nil e

pub none_right : {A : Type 0} (xs ys : List A) → xs ++ ys ≡ [] → ys ≡ []
none_right [] ys e = e
none_right (x ∷ xs) ys e = cons_nil e

none-faulty : {B : Type 0} (p : Place) (φ k : ℕ) (ks : List ℕ) → faulty p φ (k ∷ ks) ≡ [] → B
unfolding faulty
none-faulty p φ k ks e = cons_nil e

-- a slot in which nothing is found leaves the rows below
slot-rest : (judge : Judge) (need : Need) (p : Place) (φ : ℕ) (rest : Place → Slots → List Fault) (g : Json → Picked) (o : Slot Json) (ss : Slots)
    → slot_faults judge need p φ rest (put φ g o ss) ≡ [] → rest p ss ≡ []
slot-rest judge need p φ rest g missing ss e = none_right (faulty p φ (absence need)) (rest p ss) e
slot-rest judge need p φ rest g (once z) ss e = none_right (judge p φ (g z)) (rest p ss) e
slot-rest judge need p φ rest g twice ss e = none_right (faulty p φ (name_twice ∷ [])) (rest p ss) e

-- and, where it is required, holds a value in which nothing is found
slot-once : (judge : Judge) (p : Place) (φ : ℕ) (rest : Place → Slots → List Fault) (g : Json → Picked) (o : Slot Json) (ss : Slots)
    → slot_faults judge shape.required p φ rest (put φ g o ss) ≡ [] → (z : Json) × (o ≡ once z) × (judge p φ (g z) ≡ [])
slot-once judge p φ rest g missing ss e = none-faulty p φ _ _ (none_left _ (rest p ss) e)
slot-once judge p φ rest g (once z) ss e = (z, refl, none_left (judge p φ (g z)) (rest p ss) e)
slot-once judge p φ rest g twice ss e = none-faulty p φ _ _ (none_left _ (rest p ss) e)

pub required_there : {f : ℕ} {name : List ℕ} {σ : Shape} {rows : Rows} → Requires f name σ rows → (p : Place) (ms : Members) → row_faults rows p (pick_rows rows ms) ≡ []
    → (z : Json) × (unless_blank (find name ms) ≡ once z) × (faults σ p f (pick σ z) ≡ [])
unfolding row_faults_by pick_rows
required_there {f} {name} {σ} (here {rows = rows}) p ms e =
    slot-once (λ q g y. faults σ q g y) p f (λ q rest. row_faults rows q rest) (λ y. pick σ y) (unless_blank (find name ms)) (pick_rows rows ms) e
required_there (below {g = g} {need = need} {n = n} {τ = τ} {rows = rows} i r) p ms e =
    required_there r p ms (slot-rest (λ q h y. faults τ q h y) need p g (λ q rest. row_faults rows q rest) (λ y. pick τ y) (unless_blank (find n ms)) (pick_rows rows ms) e)

module _ (p : Place) (φ : ℕ) where
  pub object-there : (rows : Rows) (x : Json) → faults (shape.object rows) p φ (pick (shape.object rows) x) ≡ []
      → (ms : Members) × (x ≡ tree.object ms) × (row_faults rows p (pick_rows rows ms) ≡ [])
  unfolding faults_by pick
  object-there rows (tree.object ms) e = (ms, refl, e)
  object-there rows tree.null e = none-faulty p φ _ _ e
  object-there rows (tree.boolean b) e = none-faulty p φ _ _ e
  object-there rows (tree.number s) e = none-faulty p φ _ _ e
  object-there rows (tree.string s) e = none-faulty p φ _ _ e
  object-there rows (tree.array is) e = none-faulty p φ _ _ e

  -- an array, however its items are numbered, but for coordinates, which are judged together
  module _ (numbering : Numbering) (single : (a b : List Fault) → by_numbering numbering a b ≡ a) (most : ℕ) (σ : Shape) where
    pub array-there : (x : Json) → faults (shape.array numbering most σ) p φ (pick (shape.array numbering most σ) x) ≡ []
        → (is : PickedItems) × (pick (shape.array numbering most σ) x ≡ items is) × (leb (rings.count is) most ≡ true)
        × (each_item (λ q f y. faults σ q f y) numbering p φ 0 is ≡ [])
    unfolding faults_by pick
    array-there (tree.array js) e =
        let is = pick_items (λ y. pick σ y) js in
        let excess = faulty p φ (unless (leb (rings.count is) most) too_many) in
        let inner = each_item (λ q f y. faults σ q f y) numbering p φ 0 is in
        let h = sym (single (excess ++ inner) (coordinate_faults p φ (items is))) ∙ e in
        (is, refl, most-there (leb (rings.count is) most) (none_left excess inner h), none_right excess inner h)
      where
        most-there : (t : Bool) → faulty p φ (unless t too_many) ≡ [] → t ≡ true
        most-there true h = refl
        most-there false h = none-faulty p φ _ _ h
    array-there tree.null e = none-faulty p φ _ _ (sym (single _ _) ∙ e)
    array-there (tree.boolean b) e = none-faulty p φ _ _ (sym (single _ _) ∙ e)
    array-there (tree.number s) e = none-faulty p φ _ _ (sym (single _ _) ∙ e)
    array-there (tree.string s) e = none-faulty p φ _ _ (sym (single _ _) ∙ e)
    array-there (tree.object ms) e = none-faulty p φ _ _ (sym (single _ _) ∙ e)

  pub items-there : (judge : Judge) (numbering : Numbering) (n : ℕ) (is : PickedItems) → each_item judge numbering p φ n is ≡ [] → (y : Picked) → Memᴰ y (list_of is)
      → (q : Place) × (judge q φ y ≡ [])
  unfolding each_item list_of
  items-there judge numbering n no_item e y i = absurd (Memᴰ.not-nil i)
  items-there judge numbering n (item x is) e y i =
      let q = item_place numbering (n + 1) p in
      let ih = items-there judge numbering (n + 1) is (none_right (judge q φ x) _ e) y in
      ⊎_elim (λ h. (q, ap (judge q φ) h ∙ none_left (judge q φ x) _ e)) ih (Memᴰ.cases_cons i)

-- A row of any need.

-- a slot in which nothing is found is empty, or holds a value in which nothing is found
slot-sound : (judge : Judge) (need : Need) (p : Place) (φ : ℕ) (rest : Place → Slots → List Fault) (g : Json → Picked) (o : Slot Json) (ss : Slots)
    → slot_faults judge need p φ rest (put φ g o ss) ≡ [] → (o ≡ missing) ⊎ ((z : Json) × (o ≡ once z) × (judge p φ (g z) ≡ []))
slot-sound judge need p φ rest g missing ss e = inl refl
slot-sound judge need p φ rest g (once z) ss e = inr (z, refl, none_left (judge p φ (g z)) (rest p ss) e)
slot-sound judge need p φ rest g twice ss e = none-faulty p φ _ _ (none_left _ (rest p ss) e)

pub row-sound : {f : ℕ} {name : List ℕ} {σ : Shape} {rows : Rows} → Lists f name σ rows → (p : Place) (ms : Members) → row_faults rows p (pick_rows rows ms) ≡ []
    → (unless_blank (find name ms) ≡ missing) ⊎ ((z : Json) × (unless_blank (find name ms) ≡ once z) × (faults σ p f (pick σ z) ≡ []))
unfolding row_faults_by pick_rows
row-sound {f} {name} {σ} (fields.here {need = need} {rows = rows}) p ms e =
    slot-sound (λ q g y. faults σ q g y) need p f (λ q rest. row_faults rows q rest) (λ y. pick σ y) (unless_blank (find name ms)) (pick_rows rows ms) e
row-sound (fields.below {g = g} {need = need} {n = n} {τ = τ} {rows = rows} i r) p ms e =
    row-sound r p ms (slot-rest (λ q h y. faults τ q h y) need p g (λ q rest. row_faults rows q rest) (λ y. pick τ y) (unless_blank (find n ms)) (pick_rows rows ms) e)

-- so its field is not there, or holds such a value
module _ {f : ℕ} {name : List ℕ} {rows : Rows} (p : Place) (φ : ℕ) (x : Json) (e : faults (shape.object rows) p φ (pick (shape.object rows) x) ≡ []) where
  pub field-sound : {σ : Shape} → Lists f name σ rows
      → (field f (pick (shape.object rows) x) ≡ None) ⊎ ((z : Json) × (field f (pick (shape.object rows) x) ≡ Some (pick σ z)) × (faults σ p f (pick σ z) ≡ []))
  unfolding field pick
  field-sound {σ} l =
      let o = object-there p φ rows x e in
      let is : (s : Slot Json) → unless_blank (find name o.0) ≡ s → field f (pick (shape.object rows) x) ≡ once_only (over (pick σ) s) =
      λ s k. ap (λ (y : Json). field f (pick (shape.object rows) y)) o.1 ∙ ap once_only (at_row l o.0) ∙ ap (λ (t : Slot Json). once_only (over (pick σ) t)) k in
      ⊎_elim (λ k. inl (is missing k)) (λ k. inr (k.0, is (once k.0) k.1, k.2)) (row-sound l p o.0 o.2)

  -- and, where it is an array, has no more items than it may; none where it is not there
  pub items-few : {numbering : Numbering} {most : ℕ} {σ : Shape} → Lists f name (shape.array numbering most σ) rows → ((a b : List Fault) → by_numbering numbering a b ≡ a)
      → length (field_items f (pick (shape.object rows) x)) ≤ most
  unfolding field_items rings.count
  items-few {numbering} {most} {σ} l single =
      ⊎_elim (λ k. rw (k) (omega arith))
      (λ k. let a = array-there p f numbering single most σ k.0 k.2 in rw (k.1, a.1) (leb-true (rings.count a.0) most a.2))
      (field-sound l)

-- the field of a required row
pub field-there : {f : ℕ} {name : List ℕ} {σ : Shape} {rows : Rows} → Requires f name σ rows → (ms : Members) (z : Json) → unless_blank (find name ms) ≡ once z
    → field f (pick (shape.object rows) (tree.object ms)) ≡ Some (pick σ z)
unfolding field pick
field-there {σ = σ} r ms z e = ap once_only (at_row (lists r) ms) ∙ ap (λ (o : Slot Json). once_only (over (pick σ) o)) e

-- along rows that are required and lead on
pub demands_there : {σ τ : Shape} {ks : List Key} → Leads σ ks τ → (p : Place) (φ : ℕ) (x : Json) → faults σ p φ (pick σ x) ≡ []
    → (z : Json) × (ψ : ℕ) × (along (map (λ k. k.field) ks) (pick σ x) ≡ Some (pick τ z)) × (faults τ p ψ (pick τ z) ≡ [])
unfolding along
demands_there arrived p φ x e = (x, φ, refl, e)
demands_there (into {f = f} {rows = rows} r d) p φ x e =
    let o = object-there p φ rows x e in
    let h = required_there r p o.0 o.2 in
    let k = demands_there d p f h.0 h.2 in
    let g = ap (λ (y : Json). field f (pick (shape.object rows) y)) o.1 ∙ field-there r o.0 h.0 h.1 in
    (k.0, k.1, rw (along, g) k.2, k.3)
