-- A field of a picked object is the member of its row's name, and where that stands in the bytes the walk finds it.
use mathlib.Core.Bool.{false}
use mathlib.Core.List.{List, [], ◌∷◌}
use mathlib.Core.Path.{◌≡◌, refl, sym, ap, subst, ◌∙◌}
use Prim.Native.Nat.{ℕ, ◌+◌, ◌-◌, ◌≤◌, ◌<◌}
use native.Mathlib.Omega.{arith}
use lib.Dec.{eqb}
use lib.ListN.{length}
use borrow.Author.Tests.{eq-eqb}
use Rattle.notation.proofs.Options.{none-some, some-some}
use Rattle.json_text.specs.Tree as tree
use Rattle.json_text.specs.Tree.{Json, Members}
use Rattle.walk.specs.Walk.{part}
use Rattle.walk.specs.Part.{Whole, part_tree}
use Rattle.schema.specs.Shape as shape
use Rattle.schema.specs.Shape.{Shape, Rows, Need}
use Rattle.schema.specs.Pick.{Picked, Slots, Slot, missing, once, twice, unless_blank, put, pick, pick_rows, find, slot_of}
use Rattle.slots.specs.declared.Found.{Found}
use Rattle.slots.specs.declared.Found.TheVariants.{Missing, Once, Twice}
use Rattle.slots.specs.Found.{found_in}
use Rattle.slots.specs.inner.Found.{tree_in}
use Rattle.slots.proofs.Finds.{find-found, found-value}
use Rattle.document.specs.Document.{once_only, field}
use Rattle.document.specs.Spans.{moved, member_span, spanning}
use Rattle.walk.proofs.Cuts.{part-part, part-inside}
use Rattle.std.specs.Prelude.{Some}

-- the first row of the field f has this name and shape
pub data Lists (f : ℕ) (name : List ℕ) (σ : Shape) : Rows → Type 0 where
  here : {need : Need} {rows : Rows} → Lists f name σ (shape.row f need name σ rows)
  below : {g : ℕ} {need : Need} {n : List ℕ} {τ : Shape} {rows : Rows} → eqb f g ≡ false → Lists f name σ rows → Lists f name σ (shape.row g need n τ rows)

abbrev pub over : (Json → Picked) → Slot Json → Slot Picked
over g missing = missing
over g (once x) = once (g x)
over g twice = twice

module _ (f : ℕ) (g : Json → Picked) where
  at_here : (o : Slot Json) (rest : Slots) → slot_of f (put f g o rest) ≡ over g o
  unfolding slot_of
  at_here missing rest = rw (slot_of, eq-eqb f f refl)
  at_here (once x) rest = rw (slot_of, eq-eqb f f refl)
  at_here twice rest = rw (slot_of, eq-eqb f f refl)

  at-below : (h : ℕ) → eqb f h ≡ false → (o : Slot Json) (rest : Slots) → slot_of f (put h g o rest) ≡ slot_of f rest
  unfolding slot_of
  at-below h e missing rest = rw (slot_of, e)
  at-below h e (once x) rest = rw (slot_of, e)
  at-below h e twice rest = rw (slot_of, e)

pub at_row : {f : ℕ} {name : List ℕ} {σ : Shape} {rows : Rows} → Lists f name σ rows → (ms : Members)
    → slot_of f (pick_rows rows ms) ≡ over (pick σ) (unless_blank (find name ms))
unfolding pick_rows
at_row {f} {name} {σ} (here {rows = rows}) ms = at_here f (λ y. pick σ y) (unless_blank (find name ms)) (pick_rows rows ms)
at_row {f} (below {g = g} {n = n} {τ = τ} {rows = rows} e l) ms =
    at-below f (λ y. pick τ y) g e (unless_blank (find n ms)) (pick_rows rows ms) ∙ at_row l ms

-- the member that a field's value is picked from
pub record Held (name : List ℕ) (σ : Shape) (x : Json) (y : Picked) : Type 0 where
  pub members : Members
  pub object : x ≡ tree.object members
  pub value : Json
  pub found : find name members ≡ once value
  pub picked : pick σ value ≡ y

module _ (σ : Shape) {y : Picked} where
  from-given : (o : Slot Json) → once_only (over (pick σ) (unless_blank o)) ≡ Some y → (z : Json) × (o ≡ once z) × (pick σ z ≡ y)
  from-given missing e = none-some e
  from-given twice e = none-some e
  from-given (once tree.null) e = (tree.null, refl, some-some e)
  from-given (once (tree.boolean b)) e = (tree.boolean b, refl, some-some e)
  from-given (once (tree.number s)) e = (tree.number s, refl, some-some e)
  from-given (once (tree.string [])) e = none-some e
  from-given (once (tree.string (b ∷ s))) e = (tree.string (b ∷ s), refl, some-some e)
  from-given (once (tree.array is)) e = (tree.array is, refl, some-some e)
  from-given (once (tree.object ms)) e = (tree.object ms, refl, some-some e)

pub field-held : {f : ℕ} {name : List ℕ} {σ : Shape} {rows : Rows} → Lists f name σ rows → (x : Json) {y : Picked}
    → field f (pick (shape.object rows) x) ≡ Some y → Held name σ x y
unfolding field pick
field-held l tree.null e = none-some e
field-held l (tree.boolean b) e = none-some e
field-held l (tree.number s) e = none-some e
field-held l (tree.string s) e = none-some e
field-held l (tree.array is) e = none-some e
field-held {name = name} {σ = σ} l (tree.object ms) e =
    let g = from-given σ (find name ms) (sym (ap once_only (at_row l ms)) ∙ e) in
    record { members = ms; object = refl; value = g.0; found = g.1; picked = g.2 }

-- a value at a span of s, with its tree
pub record Stands (s : List ℕ) (from upto : ℕ) (x : Json) : Type 0 where
  pub whole : Whole (part s from upto) x
  pub some : from < upto
  pub inside : upto ≤ length s

-- a member at a place in the object at a span, and what is found there
pub record Reached (s name : List ℕ) (from upto : ℕ) (z : Json) : Type 0 where
  pub start : ℕ
  pub end : ℕ
  pub is : member_span s name (Some (spanning from upto)) ≡ Some (spanning start end)
  pub there : Stands s start end z

tree-once : (p : List ℕ) (o : Found) (z : Json) → tree_in p o ≡ once z → (a : ℕ) × (e : ℕ) × (o ≡ Once a e) × (part_tree (part p a e) ≡ z)
tree-once p Missing z h = let k : ◌≡◌ {A = ℕ} 0 1 = cc in absurd (omega arith)
tree-once p (Once a e) z h = (a, e, refl, cc)
tree-once p Twice z h = let k : ◌≡◌ {A = ℕ} 0 1 = cc in absurd (omega arith)

pub stands-found : (s name : List ℕ) (from upto : ℕ) {x : Json} → Stands s from upto x → (a e : ℕ) → found_in (part s from upto) name ≡ Once a e
    → Stands s (from + a) (from + e) (part_tree (part (part s from upto) a e))
stands-found s name from upto w a e f =
    let p = part s from upto in
    let v = found-value p name a e f in
    let n : length p ≡ upto - from = part-inside s from upto w.inside in
    let i : e ≤ upto - from = omega (arith, v.inside) in
    let less = v.some in let outer = w.inside in
    record {
      whole = subst (λ (q : List ℕ). Whole q (part_tree (part p a e))) (part-part s from upto a e i) v.whole;
      some = omega arith;
      inside = omega arith;
    }

pub reached : (s name : List ℕ) (from upto : ℕ) {ms : Members} → Stands s from upto (tree.object ms) → (z : Json) → find name ms ≡ once z
    → Reached s name from upto z
reached s name from upto w z f =
    let p = part s from upto in
    let t = tree-once p (found_in p name) z (sym (find-found p name w.whole) ∙ f) in
    let a = t.0 in let e = t.1 in
    record {
      start = from + a;
      end = from + e;
      is = ap (moved from) t.2;
      there = subst (Stands s (from + a) (from + e)) t.3 (stands-found s name from upto w a e t.2);
    }
