-- What is clear holds what is clear: the member of a required row, that of another row where it is there, and every item of an array. And a clear
-- value of a sort is a number in the form, or a string that is a price.
use mathlib.Core.Bool.{Bool, true, false}
use mathlib.Core.List.Memᴰ
use mathlib.Core.List.{List, [], ◌∷◌, Memᴰ}
use mathlib.Core.Logic.{◌⊎◌, inl, inr, ⊎_elim}
use mathlib.Core.Path.{◌≡◌, refl, sym, ap, subst, ◌∙◌}
use Prim.Native.Nat.{ℕ, ◌≤◌}
use native.Mathlib.Omega.{arith}
use lib.ListN.{length, length-map}
use Rattle.notation.specs.Choice.{◌⇒◌else◌}
use Rattle.notation.proofs.Booleans.{and_right}
use Rattle.notation.proofs.Lists.{cons_nil}
use Rattle.word.specs.Kinds.{wrong_type}
use Rattle.json_text.specs.Tree as tree
use Rattle.json_text.specs.Tree.{Json}
use Rattle.walk.specs.declared.Item.{Item}
use Rattle.walk.specs.Walk.{items_of}
use Rattle.walk.specs.Part.{Whole, part_tree, inside}
use Rattle.walk.specs.inner.Kind.{kind_at}
use Rattle.walk.proofs.Wholes.{whole-tree, whole-kind, whole-number, whole-string}
use Rattle.walk.proofs.Parts.{item_of, items-whole}
use Rattle.text.specs.Text.{text_of}
use Rattle.decimal.specs.declared.Decimal.{Decimal}
use Rattle.decimal.specs.declared.Amount.{Amount}
use Rattle.decimal.specs.Decimals.{number_of, has_point, price_of}
use Rattle.decimal.specs.Exact.{natural, money_of}
use Rattle.schema.specs.Shape as shape
use Rattle.schema.specs.Shape.{Shape, Rows, Sort}
use Rattle.schema.specs.Pick.{Picked, pick, emptied}
use Rattle.scalar.specs.Scalars.{unless, formed_kinds, any_money, price_money, pricing, number_kinds, text_kinds, boolean_kinds, kinds_of, sort_kinds}
use Rattle.fault.specs.declared.Place.{Place}
use Rattle.judge.specs.Faults.{faults_by, faults}
use Rattle.fault.specs.Fault.{faulty}
use Rattle.document.specs.Document.{elements_of, field, field_items}
use Rattle.document.proofs.Rows.{Lists}
use Rattle.document.specs.inner.Items.{picked_items}
use Rattle.document.proofs.Ways.{Requires, lists}
use Rattle.document.specs.inner.Values.{kind_code, member_of, array_by}
use Rattle.document.proofs.Values.{Holds, member-holds}
use Rattle.document.proofs.FieldBytes.{field-items}
use Rattle.clean.proofs.Faultless.{object-there, required_there, field-there, field-sound, items-few, array-there, items-there}
use Rattle.quote.specs.inner.Clear.{Clear, ClearValue}
use Rattle.std.specs.Prelude.{Option, Result, Some, None, Ok, Err}
use Rattle.decimal.specs.declared.PriceError.{PriceError}
use Rattle.decimal.specs.declared.PriceError.TheVariants.{Unformed, NoNumber}

-- members

clear-held : {σ : Shape} {q : List ℕ} (place : Place) (f : ℕ) (z : Json) → Holds σ q (Some (pick σ z)) → faults σ place f (pick σ z) ≡ [] → Clear σ q
clear-held {σ} {q} place f z h e =
    record {
      whole = subst (Whole q) (sym (whole-tree h.1)) h.1;
      place = place;
      field = f;
      clear = ap (faults σ place f) (ap (pick σ) (whole-tree h.1) ∙ h.2) ∙ e;
    }

module _ {f : ℕ} {name : List ℕ} {σ : Shape} {rows : Rows} {p : List ℕ} (c : Clear (shape.object rows) p) where
  pub member-clear : Lists f name σ rows → (member_of p name ≡ []) ⊎ Clear σ (member_of p name)
  member-clear l =
      let h = member-holds l p (part_tree p) c.whole in
      ⊎_elim (λ e. inl (subst (Holds σ (member_of p name)) e h))
      (λ k. inr (clear-held c.place f k.0 (subst (Holds σ (member_of p name)) k.1 h) k.2))
      (field-sound c.place c.field (part_tree p) c.clear l)

  pub required_clear : Requires f name σ rows → Clear σ (member_of p name)
  required_clear r =
      let o = object-there c.place c.field rows (part_tree p) c.clear in
      let k = required_there r c.place o.0 o.2 in
      let e = ap (λ (y : Json). field f (pick (shape.object rows) y)) o.1 ∙ field-there r o.0 k.0 k.1 in
      clear-held c.place f k.0 (subst (Holds σ (member_of p name)) e (member-holds (lists r) p (part_tree p) c.whole)) k.2

-- items, no more than there may be
module _ {f : ℕ} {name : List ℕ} {most : ℕ} {σ : Shape} {rows : Rows} {p : List ℕ} (c : Clear (shape.object rows) p) (l : Lists f name (shape.array shape.subs most σ) rows) where
  abbrev bytes : List ℕ
  bytes = array_by (member_of p name)

  picked : picked_items σ bytes ≡ field_items f (pick (shape.object rows) (part_tree p))
  picked = field-items l c.whole

  pub items-most : length (items_of bytes) ≤ most
  items-most =
      omega (
        arith,
        length-map (items_of bytes) (λ m. pick σ (part_tree (item_of bytes m))),
        ap length picked,
        items-few c.place c.field (part_tree p) c.clear l (λ a b. refl),
      )

  items-sound : (y : Picked) → Memᴰ y (field_items f (pick (shape.object rows) (part_tree p))) → (q : Place) × (faults σ q f y ≡ [])
  unfolding field_items
  items-sound y i =
      ⊎_elim (λ k. absurd (Memᴰ.not-nil (subst (Memᴰ y) (ap elements_of k) i)))
      (λ k.
      let a = array-there c.place f shape.subs (λ a b. refl) most σ k.0 k.2 in
      items-there c.place f (λ q g z. faults σ q g z) shape.subs 0 a.0 a.3 y (subst (Memᴰ y) (ap elements_of (k.1 ∙ ap Some a.1)) i))
      (field-sound c.place c.field (part_tree p) c.clear l)

  pub items-clear : (m : Item) → Memᴰ m (items_of bytes) → Clear σ (item_of bytes m)
  items-clear m i =
      let y = pick σ (part_tree (item_of bytes m)) in
      let s = items-sound y (subst (Memᴰ y) picked (Memᴰ.map (λ n. pick σ (part_tree (item_of bytes n))) i)) in
      record { whole = items-whole bytes m i; place = s.0; field = f; clear = s.1 }

-- single values

no-kinds : (p : Place) (f : ℕ) (ks : List ℕ) → faulty p f ks ≡ [] → ks ≡ []
unfolding faulty
no-kinds p f [] e = refl
no-kinds p f (k ∷ ks) e = cons_nil e

module _ (σ : Sort) {q : List ℕ} (c : ClearValue σ q) where
  value-kinds : kinds_of σ (emptied (part_tree q)) ≡ []
  unfolding faults_by pick
  value-kinds = no-kinds c.place c.field (kinds_of σ (emptied (part_tree q))) c.clear

  -- a string's text, and a number's spelling
  pub text-clear : kind_code (kind_at q) ≡ 3 → text_kinds σ (text_of (inside q)) ≡ []
  unfolding kinds_of
  text-clear k = go (part_tree q) c.whole value-kinds
    where
      go : (x : Json) → Whole q x → kinds_of σ (emptied x) ≡ [] → text_kinds σ (text_of (inside q)) ≡ []
      go tree.null w e = cons_nil e
      go (tree.boolean b) w e = absurd (omega (arith, k, ap kind_code (whole-kind w)))
      go (tree.number s) w e = absurd (omega (arith, k, ap kind_code (whole-kind w)))
      go (tree.string s) w e = ap (text_kinds σ) (sym (whole-string w)) ∙ e
      go (tree.array is) w e = cons_nil e
      go (tree.object ms) w e = cons_nil e

  pub number-clear : (boolean_kinds σ ≡ [] → ⊥) → (kind_code (kind_at q) ≡ 3 → ⊥) → (kind_code (kind_at q) ≡ 2) × (number_kinds σ q ≡ [])
  unfolding kinds_of
  number-clear b n = go (part_tree q) c.whole value-kinds
    where
      go : (x : Json) → Whole q x → kinds_of σ (emptied x) ≡ [] → (kind_code (kind_at q) ≡ 2) × (number_kinds σ q ≡ [])
      go tree.null w e = cons_nil e
      go (tree.boolean t) w e = absurd (b e)
      go (tree.number s) w e = (ap kind_code (whole-kind w), ap (number_kinds σ) (sym (whole-number w)) ∙ e)
      go (tree.string s) w e = absurd (n (ap kind_code (whole-kind w)))
      go (tree.array is) w e = cons_nil e
      go (tree.object ms) w e = cons_nil e

-- a number in the form that passes a test
passes : (t : Bool) (k : ℕ) → unless t k ≡ [] → t ≡ true
passes true k e = refl
passes false k e = cons_nil e

formed-value : (test : Decimal → Bool) (n : Option Decimal) → formed_kinds test n ≡ [] → (d : Decimal) × (n ≡ Some d) × (test d ≡ true)
unfolding formed_kinds
formed-value test (Some d) e = (d, refl, passes (test d) _ e)
formed-value test None e = cons_nil e

-- money
abbrev pub IsMoney : Decimal → Type 0
IsMoney d = (a : Amount) × (money_of d ≡ Some a)

money_true : (d : Decimal) → any_money d ≡ true → IsMoney d
unfolding any_money
money_true d e = go (money_of d) refl e
  where
    go : (m : Option Amount) → money_of d ≡ m → elim m [ Some a ↦ true | None ↦ false ] ≡ true → IsMoney d
    go (Some a) h e = (a, h)
    go None h e = let z : ◌≡◌ {A = ℕ} 0 1 = cc in absurd (omega arith)

price-true : (d : Decimal) → price_money d ≡ true → IsMoney d
unfolding price_money
price-true d e = money_true d (and_right (natural d) (any_money d) e)

-- so each value is what its reader needs
pub integer-clear : {q : List ℕ} → ClearValue shape.integer q → (kind_code (kind_at q) ≡ 2) × (d : Decimal) × (number_of q ≡ Some d)
unfolding sort_kinds
integer-clear {q} c =
    let n = number-clear shape.integer c (λ e. cons_nil e) (λ k. cons_nil (text-clear shape.integer c k)) in
    let v = go (has_point q) n.1 in
    (n.0, v.0, v.1)
  where
    go : (t : Bool) → (t ⇒ wrong_type ∷ [] else formed_kinds natural (number_of q)) ≡ [] → (d : Decimal) × (number_of q ≡ Some d) × (natural d ≡ true)
    go true e = cons_nil e
    go false e = formed-value natural (number_of q) e

pub money_clear : {q : List ℕ} → ClearValue shape.money q → (kind_code (kind_at q) ≡ 2) × (d : Decimal) × (number_of q ≡ Some d) × IsMoney d
unfolding sort_kinds
money_clear {q} c =
    let n = number-clear shape.money c (λ e. cons_nil e) (λ k. cons_nil (text-clear shape.money c k)) in
    let v = formed-value any_money (number_of q) n.1 in
    (n.0, v.0, v.1, money_true v.0 v.2)

module _ {q : List ℕ} (c : ClearValue shape.price q) where
  pub price-number-clear : (kind_code (kind_at q) ≡ 3 → ⊥) → (kind_code (kind_at q) ≡ 2) × (d : Decimal) × (number_of q ≡ Some d) × IsMoney d
  unfolding sort_kinds
  price-number-clear h =
      let n = number-clear shape.price c (λ e. cons_nil e) h in
      let v = formed-value price_money (number_of q) n.1 in
      (n.0, v.0, v.1, price-true v.0 v.2)

  pub price-text-clear : kind_code (kind_at q) ≡ 3 → (d : Decimal) × (price_of (text_of (inside q)) ≡ Ok d) × IsMoney d
  unfolding sort_kinds pricing
  price-text-clear h = go (price_of (text_of (inside q))) refl (text-clear shape.price c h)
    where
      go : (n : Result Decimal PriceError) → price_of (text_of (inside q)) ≡ n → pricing n ≡ [] → (d : Decimal) × (price_of (text_of (inside q)) ≡ Ok d) × IsMoney d
      go (Ok d) i e = (d, i, price-true d (passes (price_money d) _ e))
      go (Err Unformed) i e = cons_nil e
      go (Err NoNumber) i e = cons_nil e
