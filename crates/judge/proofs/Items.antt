-- The judge's loop over an array's items. Those still to come decide what is found in all, so the loop goes by `Comes` (walk/proofs/Left.antt); each item is
-- judged where it stands, and no bytes behind the array are needed to tell where it ends.
use mathlib.Core.Bool.{true}
use mathlib.Core.List.{List, [], ◌∷◌, map}
use mathlib.Core.Path.{◌≡◌, refl, sym, ap, subst, ◌∙◌}
use Prim.Native.Char.{code}
use Prim.Native.Nat.{ℕ, ◌+◌, ◌-◌, ◌≤◌, ◌<◌}
use native.Mathlib.Omega.{arith}
use lib.Dec.{leb}
use lib.ListN.{length, drop, take}
use Rattle.notation.specs.Choice.{◌and◌}
use Rattle.word.specs.Kinds.{wrong_type, too_many}
use Rattle.lexeme.specs.Tokens.{blanks}
use Rattle.lexeme.proofs.Spans.{Skipped}
use Rattle.json_text.specs.Tree as tree
use Rattle.json_text.specs.Tree.{Json, Items}
use Rattle.walk.specs.declared.Item.{Item}
use Rattle.walk.specs.Walk.{part, onward, item_at, items_of}
use Rattle.walk.specs.Part.{Whole, part_tree}
use Rattle.walk.specs.inner.Kind.{kind_at}
use Rattle.walk.specs.inner.Along.{AlongItems, ItemPassed}
use Rattle.walk.specs.inner.Front.{Ends}
use Rattle.walk.proofs.Left.{Comes, comes_start, comes_end, comes_more}
use Rattle.walk.proofs.Fronts.{fronts-whole, item-ended, item_met, items-end as array-end, cut-same}
use Rattle.walk.proofs.Places.{item-placed}
use Rattle.walk.proofs.Parts.{item_of, item-whole}
use Rattle.walk.proofs.Trees.{array_parts}
use Rattle.schema.specs.declared.Line.{Line}
use Rattle.schema.specs.Shape as shape
use Rattle.schema.specs.Shape.{Shape, Numbering}
use Rattle.schema.specs.inner.Line.{line_at, numbering_letter}
use Rattle.schema.specs.Pick as picking
use Rattle.schema.specs.Pick.{Picked, PickedItems, pick, pick_items, list_of}
use Rattle.schema.specs.Tables.{sheets}
use Rattle.notation.proofs.Booleans.{and_left, and_right}
use Rattle.fault.specs.Fault.{lesser, least, faulty}
use Rattle.fault.proofs.Leasts.{lesser-none, none-lesser, lesser_assoc, least_append}
use Rattle.scalar.specs.Scalars.{unless}
use Rattle.fault.specs.declared.Place.{Place}
use Rattle.rings.specs.Rings.{count}
use Rattle.judge.specs.Faults.{Judge, item_place, each_item, array_faults, faults_by, faults}
use Rattle.judge.specs.inner.Judgeable.{plain, judgeable}
use Rattle.judge.specs.inner.Judged.{brackets_of, item_place_of, ArrayAt, Single, Array}
use Rattle.judge.proofs.Lines.{line-field, line-numbering, line-most, line-item, item-told, line-place, plain-single, bracketless, whole-items, no_items}
use Rattle.std.specs.Prelude.{Option, Some, None}
use Rattle.fault.specs.declared.Fault.{Fault}

-- The least fault `acc` of n items with those of the items ms of p behind them, and the number of them all.
module _ (p : List ℕ) (numbering : Numbering) (σ : Shape) (q : Place) (φ : ℕ) where
  abbrev picks : List Item → PickedItems
  picks ms = pick_items (λ y. pick σ y) (tree.as_items (map (λ m. part_tree (item_of p m)) ms))

  abbrev found : Option Fault → ℕ → List Item → Option Fault × ℕ
  found acc n ms = (lesser acc (least (each_item (λ r f y. faults σ r f y) numbering q φ n (picks ms))), n + count (picks ms))

  found_none : (acc : Option Fault) (n : ℕ) → found acc n [] ≡ (acc, n)
  unfolding pick_items tree.as_items each_item least count list_of
  found_none acc n = let z : n + 0 ≡ n = omega arith in λ x. (lesser-none acc x, z x)

  found-more : (acc : Option Fault) (n : ℕ) {r : Option Fault} (m : Item) → r ≡ least (faults σ (item_place numbering (n + 1) q) φ (pick σ (part_tree (item_of p m)))) →
      (ms : List Item) → found acc n (m ∷ ms) ≡ found (lesser acc r) (n + 1) ms
  unfolding pick_items tree.as_items each_item count list_of
  found-more acc n {r} m e ms =
      let rest = least (each_item (λ r f y. faults σ r f y) numbering q φ (n + 1) (picks ms)) in
      let this = pick σ (part_tree (item_of p m)) in
      let one : lesser acc (least (each_item (λ r f y. faults σ r f y) numbering q φ n (picking.item this (picks ms)))) ≡ lesser (lesser acc r) rest =
      ap (lesser acc) (least_append _ _ ∙ ap (λ (z : Option Fault). lesser z rest) (sym e)) ∙ sym (lesser_assoc acc r rest) in
      let many : n + count (picking.item this (picks ms)) ≡ n + 1 + count (picks ms) = omega arith in
      λ x. (one x, many x)

-- of the items of the array that a row holds
abbrev items_found : List ℕ → {i : ℕ} → ArrayAt i → Place → Option Fault → ℕ → List Item → Option Fault × ℕ
items_found p a q acc n ms = found p a.numbering a.item q a.row.field acc n ms

-- all items, and how many they are
array_total : (judge : Judge) (numbering : Numbering) (most : ℕ) (q : Place) (φ : ℕ) (P : PickedItems) (n : ℕ) (acc : Option Fault) → n ≡ count P →
    acc ≡ least (each_item judge numbering q φ 0 P) →
    lesser (least (faulty q φ (unless (leb n most) too_many))) acc ≡ least (array_faults judge numbering most q φ (picking.items P))
array_total judge numbering most q φ P n acc k a = rw (k, a) (sym (least_append _ _))

-- the items of a whole array that are still to come, from the place `at` on
abbrev pub ItemsGo : List ℕ → ℕ → Place → ℕ → ℕ → Option Fault → ℕ → Type 0
ItemsGo p i q level at acc n =
    (a : ArrayAt i) → judgeable (shape.array a.numbering a.most a.item) level ≡ true → (is : Items) → Whole p (Json.array is) →
    Comes p (items_found p a q acc n) at (items_found p a q None 0 (items_of p))

-- what reading finds at a place
as_read : (p : List ℕ) (at : ℕ) → ItemPassed p at (item_at p at)
as_read p at = record { placed = item-placed p at; same = λ a. refl }

-- The first n bytes of p are an array, whatever n is: how far the walk has come in it, and the items that are still to come.
pub record ItemsMet (p : List ℕ) (i : ℕ) (q : Place) (level at : ℕ) (acc : Option Fault) (k : ℕ) : Type 0 where
  along : (n : ℕ) (is : Items) → Whole (take n p) (Json.array is) → AlongItems (take n p) at
  go : (n : ℕ) → ItemsGo (take n p) i q level at acc k

-- an array that is numbered otherwise than by positions
judgeable-items : (numbering : Numbering) → (numbering_letter numbering ≡ code "p" → ⊥) → (most : ℕ) (σ : Shape) (level : ℕ) →
    judgeable (shape.array numbering most σ) level ≡ true → plain σ and judgeable σ level ≡ true
unfolding judgeable
judgeable-items shape.records n most σ level e = e
judgeable-items shape.subs n most σ level e = e
judgeable-items shape.outer n most σ level e = e
judgeable-items shape.positions n most σ level e = absurd (n refl)

pub counted-faults : (numbering : Numbering) → (numbering_letter numbering ≡ code "p" → ⊥) → (most : ℕ) (σ : Shape) (q : Place) (φ : ℕ) (x : Picked) →
    faults (shape.array numbering most σ) q φ x ≡ array_faults (λ r f y. faults σ r f y) numbering most q φ x
unfolding faults_by
counted-faults shape.records n most σ q φ x = refl
counted-faults shape.subs n most σ q φ x = refl
counted-faults shape.outer n most σ q φ x = refl
counted-faults shape.positions n most σ q φ x = absurd (n refl)

module _ (p : List ℕ) (i : ℕ) (q : Place) (level : ℕ) where
  pub items_begin : ItemsMet p i q level 1 None 0
  items_begin =
      record {
        along = λ n is w. AlongItems.start w;
        go = λ n a e is w. comes_start (items_found (take n p) a q None 0) (λ h. AlongItems.start w);
      }

  module _ {line : Line} (line-is : line ≡ line_at sheets i) (other : line.numbering ≡ code "p" → ⊥) where
    -- nor is the row that line i is of numbered by positions
    not-positions : (a : ArrayAt i) → numbering_letter a.numbering ≡ code "p" → ⊥
    not-positions a k = other (ap (λ (m : Line). m.numbering) line-is ∙ line-numbering a ∙ k)

    -- an item at v, of e bytes
    item-judged : (at : ℕ) (acc : Option Fault) (k v e next : ℕ) {r : Option Fault} → Skipped p at v → Ends (drop v p) e → 0 < e → next ≡ onward p (blanks (drop (v + e) p)) →
        Single (take e (drop v p)) line.item i (item_place_of line.numbering (k + 1) q) level r →
        (n : ℕ) → ItemsMet p i q level at acc k → ItemsGo (take n p) i q level next (lesser acc r) (k + 1)
    item-judged at acc k v e next {r} here ends some on s n met a d is w =
        let P = take n p in let σ = a.item in
        let m : Item = record { value = v; value_end = v + e; next = next } in
        let f : item_at P at ≡ Some m = item_met p n at v e here ends some next on (met.along n is w) in
        let placed = item-placed P at m f in
        let y = judgeable-items a.numbering (not-positions a) a.most σ level d in
        let b = and_left (plain σ) (judgeable σ level) y in
        let inside : v + e ≤ length P = omega (arith, placed.next, placed.inside) in
        let o =
        subst (λ (z : Line). Single (part P v (v + e)) z.item i (item_place_of z.numbering (k + 1) q) level r) line-is
        (subst (λ (z : List ℕ). Single z line.item i (item_place_of line.numbering (k + 1) q) level r) (cut-same p n at v e inside) s) in
        let x = part_tree (item_of P m) in
        let h =
        o.is σ (item-told a b) (λ c. plain-single σ b (line-item a ∙ c)) (and_right (plain σ) (judgeable σ level) y) x (item-whole P at m f)
        ∙ ap (λ (z : Place). least (faults σ z (line_at sheets i).field (pick σ x))) (line-place a (k + 1) q)
        ∙ ap (λ (φ : ℕ). least (faults σ (item_place a.numbering (k + 1) q) φ (pick σ x))) (line-field a.row) in
        comes_more (met.go n a d is w) (as_read P at) f (items_found P a q (lesser acc r) (k + 1)) (found-more P a.numbering σ q a.row.field acc k m h)

    pub items-next : (at : ℕ) (acc : Option Fault) (k v e next : ℕ) {r : Option Fault} → Skipped p at v → Ends (drop v p) e → 0 < e → next ≡ onward p (blanks (drop (v + e) p)) →
        Single (take e (drop v p)) line.item i (item_place_of line.numbering (k + 1) q) level r →
        ItemsMet p i q level at acc k → ItemsMet p i q level next (lesser acc r) (k + 1)
    items-next at acc k v e next here ends some on s met =
        record {
          along = λ n is w. let a = met.along n is w in AlongItems.next a (item_met p n at v e here ends some next on a);
          go = λ n. item-judged at acc k v e next here ends some on s n met;
        }

    -- no item at v: the array ends behind its closing bracket
    module _ (at : ℕ) (acc : Option Fault) (k v e : ℕ) (here : Skipped p at v) (none : Ends (drop v p) e) (zero : e ≡ 0)
        {b : ℕ} (by : b ≡ brackets_of (kind_at p)) (is-array : b ≡ code "[") (met : ItemsMet p i q level at acc k) where
      pub array-ends : (upto : ℕ) → upto ≡ length p - length (drop 1 (blanks (drop at p))) → Ends p upto
      array-ends upto c =
          record {
            inside = omega arith;
            is = λ x n f.
                let w = fronts-whole f in
                let m = whole-items p n w (sym by ∙ is-array) in
                let w' = subst (Whole (take n p)) m.1 w in
                let a = met.along n m.0 w' in
                array-end p n at upto c f.fits w' a (item-ended p n at v e here none zero a);
            none = λ o. absurd (bracketless p o (sym by ∙ is-array));
          }

      pub items-end : (n : ℕ) {r : Option Fault} → r ≡ lesser (least (faulty q line.field (unless (leb k line.most) too_many))) acc → Array (take n p) i q level r
      unfolding pick
      items-end n {r} h = record { is = is }
        where
          P : List ℕ
          P = take n p

          is : (a : ArrayAt i) → let σ = shape.array a.numbering a.most a.item in judgeable σ level ≡ true → (x : Json) → Whole P x →
              r ≡ least (faults σ q a.row.field (pick σ x))
          is a d x w =
              let σ = shape.array a.numbering a.most a.item in let field = a.row.field in
              let picked = picks P a.numbering a.item q field (items_of P) in
              let m = whole-items p n w (sym by ∙ is-array) in
              let v' = subst (Whole P) m.1 w in
              let end = item-ended p n at v e here none zero (met.along n m.0 v') in
              let we : (acc, k) ≡ items_found P a q None 0 (items_of P) =
              sym (found_none P a.numbering a.item q field acc k) ∙ comes_end (met.go n a d m.0 v') (as_read P at) end in
              let l : acc ≡ least (each_item (λ r f y. faults a.item r f y) a.numbering q field 0 picked) = ap (λ (z : Option Fault × ℕ). z.0) we ∙ none-lesser _ in
              let c : k ≡ count picked = ap (λ (z : Option Fault × ℕ). z.1) we ∙ omega arith in
              let t : pick σ x ≡ picking.items picked =
              ap (pick σ) m.1 ∙ ap (λ (z : Items). picking.items (pick_items (λ y. pick a.item y) z)) (array_parts P v') in
              h ∙ ap (λ (z : Line). lesser (least (faulty q z.field (unless (leb k z.most) too_many))) acc) line-is
              ∙ ap (λ (φ : ℕ). lesser (least (faulty q φ (unless (leb k (line_at sheets i).most) too_many))) acc) (line-field a.row)
              ∙ ap (λ (z : ℕ). lesser (least (faulty q field (unless (leb k z) too_many))) acc) (line-most a)
              ∙ array_total (λ r f y. faults a.item r f y) a.numbering a.most q field picked k acc c l
              ∙ ap least (sym (counted-faults a.numbering (not-positions a) a.most a.item q field (picking.items picked)))
              ∙ ap (λ (z : Picked). least (faults σ q field z)) (sym t)

    pub array-other : (n : ℕ) {b : ℕ} {r : Option Fault} → b ≡ brackets_of (kind_at p) → (b ≡ code "[" → ⊥) → r ≡ least (faulty q line.field (wrong_type ∷ [])) → Array (take n p) i q level r
    array-other n b not-array h =
        record {
          is = λ a e x w.
              h ∙ ap (λ (φ : ℕ). least (faulty q φ (wrong_type ∷ []))) (ap (λ (z : Line). z.field) line-is ∙ line-field a.row)
              ∙ sym (ap least (counted-faults a.numbering (not-positions a) a.most a.item q a.row.field _
              ∙ no_items p n w (λ k. not-array (b ∙ k)) (λ r f y. faults a.item r f y) a.numbering a.most a.item q a.row.field));
        }
