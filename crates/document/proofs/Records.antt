-- The records in a file's bytes are the records of the picked file, one by one: each stands at its span, whole, and is picked by its shape.
use mathlib.Core.List.Memᴰ
use mathlib.Core.List.{List, [], ◌∷◌, map, Memᴰ}
use mathlib.Core.Path.{◌≡◌, refl, sym, ap, subst, ◌∙◌}
use Prim.Native.Nat.{ℕ, zero, suc, ◌+◌, ◌-◌, ◌≤◌, ◌<◌}
use native.Mathlib.Omega.{arith}
use lib.ListN.{length, drop, length-map}
use Rattle.limits.specs.Ceilings as ceiling
use Rattle.notation.proofs.Options.{none-some, some-some}
use Rattle.json_text.specs.Tree as tree
use Rattle.json_text.specs.Tree.{Json, Items}
use Rattle.walk.specs.declared.Item.{Item}
use Rattle.walk.specs.Walk.{part, items_of}
use Rattle.walk.specs.Part.{Whole, part_tree}
use Rattle.walk.proofs.Places.{item-placed}
use Rattle.walk.proofs.Folds as iterated
use Rattle.walk.proofs.Folds.{item_steps}
use Rattle.walk.proofs.Parts.{item_of, items-whole}
use Rattle.walk.proofs.Trees.{array_parts}
use Rattle.walk.proofs.Open.{front-map}
use Rattle.walk.proofs.Files.{value_start, Passed}
use Rattle.schema.specs.Shape as shape
use Rattle.schema.specs.Shape.{Shape}
use Rattle.schema.specs.Tables.{sheet_shape}
use Rattle.schema.specs.Records.{Key, record_shape}
use Rattle.schema.specs.Pick.{Picked, PickedItems, items, pick, pick_items, list_of}
use Rattle.document.specs.declared.Span.{Span}
use Rattle.document.specs.Document.{field, along}
use Rattle.document.specs.Trees as trees
use Rattle.document.specs.Trees.{numbered}
use Rattle.document.proofs.Rows.{field-held, Stands, reached}
use Rattle.document.specs.inner.Items.{picked_items}
use Rattle.document.specs.Spans.{members_along, top_span, records_span, nth, nth_in, spanning}
use Rattle.walk.proofs.Cuts.{part-part, part-inside}
use Rattle.document.proofs.Along.{top-found, nth-zero}
use Rattle.document.proofs.Ways.{lists, Leads, arrived, into, Recorded}
use Rattle.std.specs.Prelude.{Option, Some, None}

-- the value of a file that passes
module _ (s : List ℕ) (t : Passed s) where
  pub top-is : top_span s ≡ Some (spanning (value_start s) t.end)
  top-is = top-found s t.end t.found

  pub top-stands : Stands s (value_start s) t.end t.tree
  top-stands = record { whole = t.whole; some = t.some; inside = t.inside }

-- what stands at a span, from which y is picked
pub record Picks (s : List ℕ) (span : Option Span) (σ : Shape) (y : Picked) : Type 0 where
  pub start : ℕ
  pub end : ℕ
  pub tree : Json
  pub is : span ≡ Some (spanning start end)
  pub there : Stands s start end tree
  pub picked : pick σ tree ≡ y

along-into : (f : ℕ) (fs : List ℕ) (x y : Picked) → along (f ∷ fs) x ≡ Some y → (z : Picked) × (field f x ≡ Some z) × (along fs z ≡ Some y)
unfolding along
along-into f fs x y e = go (field f x) refl e
  where
    go : (o : Option Picked) → field f x ≡ o → elim o [ None ↦ None | Some z ↦ along fs z ] ≡ Some y → (z : Picked) × (field f x ≡ Some z) × (along fs z ≡ Some y)
    go None h k = none-some k
    go (Some z) h k = (z, h, k)

-- the fields along a way are the members along its names
pub leads-on : {σ τ : Shape} {ks : List Key} → Leads σ ks τ → (s : List ℕ) (from upto : ℕ) (x : Json) → Stands s from upto x
    → (y : Picked) → along (map (λ k. k.field) ks) (pick σ x) ≡ Some y → Picks s (members_along s (map (λ k. k.name) ks) (Some (spanning from upto))) τ y
unfolding along members_along
leads-on arrived s from upto x w y e = record { start = from; end = upto; tree = x; is = refl; there = w; picked = some-some e }
leads-on (into {f = f} {name = name} {rows = rows} {ks = ks} l r) s from upto x w y e =
    let fs = map (λ k. k.field) ks in let names = map (λ k. k.name) ks in
    let t = along-into f fs (pick (shape.object rows) x) y e in
    let d = field-held (lists l) x t.1 in
    let v = reached s name from upto (subst (Stands s from upto) d.object w) d.value d.found in
    let q = leads-on r s v.start v.end d.value v.there y (ap (along fs) d.picked ∙ t.2) in
    record { start = q.start; end = q.end; tree = q.tree; is = ap (members_along s names) v.is ∙ q.is; there = q.there; picked = q.picked }

-- the trees of the items of the array p
abbrev pub item_trees : List ℕ → List Json
item_trees p = map (λ m. part_tree (item_of p m)) (items_of p)

-- they are the same where more follows the array
pub open_items : {is : Items} (σ : Shape) (s : List ℕ) (from upto : ℕ) → Whole (part s from upto) (tree.array is)
    → picked_items σ (drop from s) ≡ picked_items σ (part s from upto)
open_items σ s from upto w = front-map (drop from s) (upto - from) (λ m q. pick σ (part_tree q)) w

-- an array at a span, whose items l is picked from
pub record Records (s : List ℕ) (span : Option Span) (σ : Shape) (l : List Picked) : Type 0 where
  pub start : ℕ
  pub end : ℕ
  pub trees : Items
  pub is : span ≡ Some (spanning start end)
  pub there : Stands s start end (tree.array trees)
  pub picked : l ≡ picked_items σ (part s start end)

pub list_each : (f : Json → Picked) (ms : List Item) (g : Item → Json) → list_of (pick_items f (tree.as_items (map g ms))) ≡ map (λ m. f (g m)) ms
unfolding list_of pick_items tree.as_items
list_each f [] g = refl
list_each f (m ∷ ms) g = ap (λ (l : List Picked). f (g m) ∷ l) (list_each f ms g)

module _ (numbering : shape.Numbering) (most : ℕ) (σ : Shape) (is : PickedItems) where
  array_of : (x : Json) → pick (shape.array numbering most σ) x ≡ items is → (js : Items) × (x ≡ tree.array js) × (is ≡ pick_items (λ y. pick σ y) js)
  unfolding pick
  array_of (tree.array js) e = (js, refl, cc)
  array_of tree.null e = let z : ◌≡◌ {A = ℕ} 0 1 = cc in absurd (omega arith)
  array_of (tree.boolean b) e = let z : ◌≡◌ {A = ℕ} 0 1 = cc in absurd (omega arith)
  array_of (tree.number t) e = let z : ◌≡◌ {A = ℕ} 0 1 = cc in absurd (omega arith)
  array_of (tree.string t) e = let z : ◌≡◌ {A = ℕ} 0 1 = cc in absurd (omega arith)
  array_of (tree.object ms) e = let z : ◌≡◌ {A = ℕ} 0 1 = cc in absurd (omega arith)

  pub array-records : {s : List ℕ} {span : Option Span} → Picks s span (shape.array numbering most σ) (items is) → Records s span σ (list_of is)
  array-records {s} p =
      let a = array_of p.tree p.picked in
      let w : Stands s p.start p.end (tree.array a.0) = subst (Stands s p.start p.end) a.1 p.there in
      let q = part s p.start p.end in
      record {
        start = p.start;
        end = p.end;
        trees = a.0;
        is = p.is;
        there = w;
        picked =
            ap list_of a.2 ∙ ap (λ js. list_of (pick_items (λ y. pick σ y) js)) (array_parts q w.whole)
            ∙ list_each (λ y. pick σ y) (items_of q) (λ m. part_tree (item_of q m));
      }

-- of a file that passes, where the way to its records is there
pub records_stand : (n : ℕ) (d : Recorded n) (s : List ℕ) (t : Passed s) (is : PickedItems)
    → along (map (λ k. k.field) d.way.keys) (pick (sheet_shape n) t.tree) ≡ Some (items is) → Records s (records_span (sheet_shape n) s) (record_shape n) (list_of is)
unfolding records_span
records_stand n d s t is e =
    let p = leads-on d.leads s (value_start s) t.end t.tree (top-stands s t) (items is) e in
    rw (records_span, d.is, top-is s t) (array-records shape.records ceiling.records (record_shape n) is p)

-- items by number
module _ (from : ℕ) where
  pub nth_of : (f : Item → Json) (ms : List Item) (k : ℕ) → k < length ms → (m : Item) × Memᴰ m ms
      × (nth from ms (suc k) ≡ Some (spanning (from + m.value) (from + m.value_end))) × (numbered (suc k) (map f ms) ≡ Some (f m))
  unfolding nth numbered
  nth_of f [] k h = absurd (omega arith)
  nth_of f (m ∷ ms) zero h = (m, Memᴰ.head refl, refl, refl)
  nth_of f (m ∷ ms) (suc k) h = let t = nth_of f ms k (omega arith) in (t.0, Memᴰ.tail t.1, t.2, t.3)

  pub nth_past : (ms : List Item) (k : ℕ) → length ms ≤ k → nth from ms (suc k) ≡ None
  unfolding nth
  nth_past [] k h = refl
  nth_past (m ∷ ms) zero h = absurd (omega arith)
  nth_past (m ∷ ms) (suc k) h = nth_past ms k (omega arith)

pub item-inside : (p : List ℕ) (m : Item) → Memᴰ m (items_of p) → (m.value < m.value_end) × (m.value_end ≤ length p)
unfolding items_of
item-inside p =
    iterated.each (item_steps p) (λ m. (m.value < m.value_end) × (m.value_end ≤ length p))
    (λ at m e. let k = item-placed p at m e in (k.value, omega arith)) (length p) 1

module _ {s : List ℕ} {span : Option Span} {σ : Shape} {l : List Picked} (r : Records s span σ l) where
  -- the bytes of the array
  abbrev pub array : List ℕ
  array = part s r.start r.end

  pub as_many : length l ≡ length (items_of array)
  as_many = ap length r.picked ∙ length-map (items_of array) (λ m. pick σ (part_tree (item_of array m)))

  -- the record of a number, counted from 1, with its tree
  pub record RecordAt (n : ℕ) : Type 0 where
    pub start : ℕ
    pub end : ℕ
    pub tree : Json
    pub is : nth_in s span n ≡ Some (spanning start end)
    pub numbered : trees.numbered n (item_trees array) ≡ Some tree
    pub there : Stands s start end tree
    pub picked : Memᴰ (pick σ tree) l

  pub record_at : (k : ℕ) → k < length l → RecordAt (suc k)
  record_at k h =
      let a = r.start in
      let t = nth_of a (λ m. part_tree (item_of array m)) (items_of array) k (omega (arith, as_many)) in
      let m = t.0 in
      let i = item-inside array m t.1 in
      let n : length array ≡ r.end - a = part-inside s a r.end r.there.inside in
      let fits : m.value_end ≤ r.end - a = omega arith in
      let same : item_of array m ≡ part s (a + m.value) (a + m.value_end) = part-part s a r.end m.value m.value_end fits in
      let outer = r.there.inside in let less = r.there.some in
      record {
        start = a + m.value;
        end = a + m.value_end;
        tree = part_tree (item_of array m);
        is = ap (λ (z : Option Span). nth_in s z (suc k)) r.is ∙ t.2;
        numbered = t.3;
        there =
            record {
              whole = subst (λ (q : List ℕ). Whole q (part_tree (item_of array m))) same (items-whole array m t.1);
              some = omega arith;
              inside = omega arith;
            };
        picked = subst (Memᴰ (pick σ (part_tree (item_of array m)))) (sym r.picked) (Memᴰ.map (λ j. pick σ (part_tree (item_of array j))) t.1);
      }

  pub record_past : (k : ℕ) → length l ≤ k → nth_in s span (suc k) ≡ None
  record_past k h = ap (λ (z : Option Span). nth_in s z (suc k)) r.is ∙ nth_past r.start (items_of array) k (omega (arith, as_many))

  pub record_none : nth_in s span 0 ≡ None
  record_none = ap (λ (z : Option Span). nth_in s z 0) r.is ∙ nth-zero r.start (items_of array)
