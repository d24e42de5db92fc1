-- Demand 3's lemma: of a later tree the same is picked. A row's slot looks at the members of its own name alone, and of these at how many
-- there are and at what is picked of the one; swapping members changes neither, and no added member has a listed name.
use mathlib.Core.Bool.{Bool, true, false, not}
use mathlib.Core.List.{List, [], ◌∷◌, map, Memᴰ}
use mathlib.Core.Path.{◌≡◌, refl, sym, ◌∙◌, ap, ap₂}
use Prim.Native.Nat.{ℕ}
use borrow.Author.Tests.{not-true}
use Rattle.notation.specs.Choice.{◌⇒◌else◌, ◌and◌}
use Rattle.notation.proofs.Booleans.{true-false, and_left, and_right}
use Rattle.json_text.specs.Tree.{Json, Items, Members, array, object, member}
use Rattle.text.specs.Text.{same}
use Rattle.text.proofs.Laws.{same_refl, same_true}
use Rattle.schema.specs.Shape as shape
use Rattle.schema.specs.Shape.{Shape, Rows, Need}
use Rattle.schema.specs.Pick as picking
use Rattle.schema.specs.Pick.{Slot, missing, once, twice, again, find, unless_empty, unless_blank, put, Picked, items, slots, Slots, absent, present, repeated, pick_items, pick, pick_rows}
use Rattle.schema.specs.Later.{Later, LaterItems, LaterMembers, unchanged, afterwards, in_array, in_object, no_item', item', no_member', kept, swapped, added, and_then, item_shape, rows_of, listed_in, shape_in, member_shape, listed}
use Rattle.schema.specs.inner.Sound.{distinct_names, distinct_rows}

-- The shapes of a place.

-- σ is among σs
abbrev pub Among : Shape → List Shape → Type 0
Among σ σs = Memᴰ σ σs

among-map : (f : Shape → Shape) {σ : Shape} {σs : List Shape} → Among σ σs → Among (f σ) (map f σs)
among-map f (Memᴰ.head e) = Memᴰ.head (ap f e)
among-map f (Memᴰ.tail a) = Memᴰ.tail (among-map f a)

either-false : (a b : Bool) → (a ⇒ true else b) ≡ false → (a ≡ false) × (b ≡ false)
either-false true b e = true-false refl e
either-false false b e = (refl, e)

-- what none of them lists, σ does not
unlisted-each : {σ : Shape} {σs : List Shape} (name : List ℕ) → Among σ σs → listed σs name ≡ false → listed_in (rows_of σ) name ≡ false
unfolding listed
unlisted-each name (Memᴰ.head {x = τ} {xs = τs} e) h = rw e (either-false (listed_in (rows_of τ) name) (listed τs name) h).0
unlisted-each name (Memᴰ.tail {x = τ} {xs = τs} a) h = unlisted-each name a (either-false (listed_in (rows_of τ) name) (listed τs name) h).1

-- Distinct names go down to the shapes inside.

distinct-item : (σ : Shape) → distinct_names σ ≡ true → distinct_names (item_shape σ) ≡ true
unfolding distinct_names item_shape
distinct-item shape.unlisted d = refl
distinct-item (shape.scalar sort) d = refl
distinct-item (shape.array numbering most σ) d = d
distinct-item (shape.object rows) d = refl

distinct-rows_of : (σ : Shape) → distinct_names σ ≡ true → distinct_rows (rows_of σ) ≡ true
unfolding distinct_names rows_of
distinct-rows_of shape.unlisted d = refl
distinct-rows_of (shape.scalar sort) d = refl
distinct-rows_of (shape.array numbering most σ) d = refl
distinct-rows_of (shape.object rows) d = d

-- what a row's test says: its name is not listed below it, its own shape and the rows below are distinct
record Heads (name : List ℕ) (σ : Shape) (rows : Rows) : Type 0 where
  fresh : listed_in rows name ≡ false
  inner : distinct_names σ ≡ true
  below : distinct_rows rows ≡ true

heads : (field : ℕ) (need : Need) (name : List ℕ) (σ : Shape) (rows : Rows) → distinct_rows (shape.row field need name σ rows) ≡ true → Heads name σ rows
unfolding distinct_rows
heads field need name σ rows d =
    let r = and_right (not (listed_in rows name)) (distinct_names σ and distinct_rows rows) d in
    record {
      fresh = not-true (listed_in rows name) (and_left (not (listed_in rows name)) (distinct_names σ and distinct_rows rows) d);
      inner = and_left (distinct_names σ) (distinct_rows rows) r;
      below = and_right (distinct_names σ) (distinct_rows rows) r;
    }

distinct-shape_in : (rows : Rows) (name : List ℕ) → distinct_rows rows ≡ true → distinct_names (shape_in rows name) ≡ true
unfolding shape_in
distinct-shape_in shape.no_row name d = unfold distinct_names in refl
distinct-shape_in (shape.row field need n σ rows) name d =
    let h = heads field need n σ rows d in
    go (same name n) h.inner (distinct-shape_in rows name h.below)
  where
    go : (b : Bool) → distinct_names σ ≡ true → distinct_names (shape_in rows name) ≡ true → distinct_names (b ⇒ σ else shape_in rows name) ≡ true
    go true p q = p
    go false p q = q

-- Slots.

over : {A B : Type 0} → (A → B) → Slot A → Slot B
over f missing = missing
over f (once x) = once (f x)
over f twice = twice

over_choice : {A B : Type 0} (f : A → B) (b : Bool) (x : A) (s : Slot A) →
    over f (b ⇒ again x s else s) ≡ (b ⇒ again (f x) (over f s) else over f s)
unfolding over
over_choice f true x missing = refl
over_choice f true x (once y) = refl
over_choice f true x twice = refl
over_choice f false x s = refl

again_swap : {A : Type 0} (x y : A) (s : Slot A) → again x (again y s) ≡ again y (again x s)
again_swap x y missing = refl
again_swap x y (once z) = refl
again_swap x y twice = refl

choice_swap : {A : Type 0} (a b : Bool) (x y : A) (s : Slot A) →
    (a ⇒ again x (b ⇒ again y s else s) else (b ⇒ again y s else s)) ≡ (b ⇒ again y (a ⇒ again x s else s) else (a ⇒ again x s else s))
choice_swap true true x y s = again_swap x y s
choice_swap true false x y s = refl
choice_swap false true x y s = refl
choice_swap false false x y s = refl

-- what a slot shows of a value that stands alone there
seen : Shape → Json → Slot Picked
seen σ x = over (pick σ) (unless_empty x)

alone : Slot (Slot Picked) → Slot Picked
alone missing = missing
alone (once s) = s
alone twice = twice

place : ℕ → Slot Picked → Slots → Slots
place field missing rest = absent field rest
place field (once p) rest = present field p rest
place field twice rest = repeated field rest

put-over : (field : ℕ) (f : Json → Picked) (s : Slot Json) (rest : Slots) → put field f s rest ≡ place field (over f s) rest
unfolding over place
put-over field f missing rest = refl
put-over field f (once x) rest = refl
put-over field f twice rest = refl

over-given : (σ : Shape) (s : Slot Json) → over (pick σ) (unless_blank s) ≡ alone (over (seen σ) s)
unfolding over alone seen
over-given σ missing = refl
over-given σ (once x) = refl
over-given σ twice = refl

-- a row's slot, by the members of its name
put-seen : (field : ℕ) (σ : Shape) (s : Slot Json) (rest : Slots) → put field (λ y. pick σ y) (unless_blank s) rest ≡ place field (alone (over (seen σ) s)) rest
put-seen field σ s rest = put-over field (pick σ) (unless_blank s) rest ∙ ap (λ (p : Slot Picked). place field p rest) (over-given σ s)

-- Objects: the members of each listed name decide.

held : Rows → List ℕ → Members → Slot (Slot Picked)
held rows n ms = over (seen (shape_in rows n)) (find n ms)

-- the members of every listed name show the same
abbrev Alike : Rows → Members → Members → Type 0
Alike rows ms ms' = (n : List ℕ) → listed_in rows n ≡ true → held rows n ms ≡ held rows n ms'

held-member : (rows : Rows) (n m : List ℕ) (x : Json) (ms : Members) →
    held rows n (member m x ms) ≡ (same n m ⇒ again (seen (shape_in rows n) x) (held rows n ms) else held rows n ms)
unfolding held find
held-member rows n m x ms = over_choice (seen (shape_in rows n)) (same n m) x (find n ms)

alike-first : (field : ℕ) (need : Need) (name : List ℕ) (σ : Shape) (rows : Rows) (ms ms' : Members) →
    Alike (shape.row field need name σ rows) ms ms' → over (seen σ) (find name ms) ≡ over (seen σ) (find name ms')
unfolding held listed_in shape_in
alike-first field need name σ rows ms ms' h = go (same name name) (same_refl name) (h name)
  where
    go : (b : Bool) → b ≡ true →
        ((b ⇒ true else listed_in rows name) ≡ true →
        over (seen (b ⇒ σ else shape_in rows name)) (find name ms) ≡ over (seen (b ⇒ σ else shape_in rows name)) (find name ms')) →
        over (seen σ) (find name ms) ≡ over (seen σ) (find name ms')
    go true e k = k refl
    go false e k = true-false e refl

alike-below : (field : ℕ) (need : Need) (name : List ℕ) (σ : Shape) (rows : Rows) (ms ms' : Members) → listed_in rows name ≡ false →
    Alike (shape.row field need name σ rows) ms ms' → Alike rows ms ms'
unfolding held listed_in shape_in
alike-below field need name σ rows ms ms' fresh h n l = go (same n name) refl (h n)
  where
    go : (b : Bool) → same n name ≡ b →
        ((b ⇒ true else listed_in rows n) ≡ true →
        over (seen (b ⇒ σ else shape_in rows n)) (find n ms) ≡ over (seen (b ⇒ σ else shape_in rows n)) (find n ms')) →
        over (seen (shape_in rows n)) (find n ms) ≡ over (seen (shape_in rows n)) (find n ms')
    go true e k = true-false l (rw (same_true n name e) fresh)
    go false e k = k l

rows_alike : (rows : Rows) (ms ms' : Members) → distinct_rows rows ≡ true → Alike rows ms ms' → pick_rows rows ms ≡ pick_rows rows ms'
unfolding pick_rows
rows_alike shape.no_row ms ms' d h = refl
rows_alike (shape.row field need name σ rows) ms ms' d h =
    let r = heads field need name σ rows d in
    put-seen field σ (find name ms) (pick_rows rows ms)
    ∙ ap₂ (λ (s : Slot (Slot Picked)) (rest : Slots). place field (alone s) rest)
    (alike-first field need name σ rows ms ms' h)
    (rows_alike rows ms ms' r.below (alike-below field need name σ rows ms ms' r.fresh h))
    ∙ sym (put-seen field σ (find name ms') (pick_rows rows ms'))

object-alike : (σ : Shape) (ms ms' : Members) → distinct_names σ ≡ true → Alike (rows_of σ) ms ms' → pick σ (object ms) ≡ pick σ (object ms')
unfolding pick rows_of
object-alike shape.unlisted ms ms' d h = refl
object-alike (shape.scalar sort) ms ms' d h = refl
object-alike (shape.array numbering most σ) ms ms' d h = refl
object-alike (shape.object rows) ms ms' d h = ap slots (rows_alike rows ms ms' (distinct-rows_of (shape.object rows) d) h)

array-alike : (σ : Shape) (is is' : Items) → pick_items (pick (item_shape σ)) is ≡ pick_items (pick (item_shape σ)) is' → pick σ (array is) ≡ pick σ (array is')
unfolding pick item_shape
array-alike shape.unlisted is is' h = refl
array-alike (shape.scalar sort) is is' h = refl
array-alike (shape.array numbering most σ) is is' h = ap items h
array-alike (shape.object rows) is is' h = refl

-- The ways in which an object gets later.

kept-alike : (rows : Rows) (n m : List ℕ) (x x' : Json) (ms ms' : Members) → seen (shape_in rows m) x ≡ seen (shape_in rows m) x' →
    held rows n ms ≡ held rows n ms' → held rows n (member m x ms) ≡ held rows n (member m x' ms')
kept-alike rows n m x x' ms ms' e h = held-member rows n m x ms ∙ go (same n m) refl ∙ sym (held-member rows n m x' ms')
  where
    go : (b : Bool) → same n m ≡ b →
        (b ⇒ again (seen (shape_in rows n) x) (held rows n ms) else held rows n ms)
        ≡ (b ⇒ again (seen (shape_in rows n) x') (held rows n ms') else held rows n ms')
    go true q = ap₂ again (rw (same_true n m q) e) h
    go false q = h

swapped-alike : (rows : Rows) (n a b : List ℕ) (x y : Json) (ms : Members) →
    held rows n (member a x (member b y ms)) ≡ held rows n (member b y (member a x ms))
swapped-alike rows n a b x y ms =
    simp held-member (choice_swap (same n a) (same n b) (seen (shape_in rows n) x) (seen (shape_in rows n) y) (held rows n ms))

added-alike : (rows : Rows) (n m : List ℕ) (x : Json) (ms : Members) → listed_in rows m ≡ false → listed_in rows n ≡ true →
    held rows n ms ≡ held rows n (member m x ms)
added-alike rows n m x ms u l = go (same n m) refl ∙ sym (held-member rows n m x ms)
  where
    go : (b : Bool) → same n m ≡ b → held rows n ms ≡ (b ⇒ again (seen (shape_in rows n) x) (held rows n ms) else held rows n ms)
    go true q = true-false l (rw (same_true n m q) u)
    go false q = refl

-- the same is picked, and shown by a slot
record SamePick (σ : Shape) (x x' : Json) : Type 0 where
  picked : pick σ x ≡ pick σ x'
  shown : seen σ x ≡ seen σ x'

mutual
  unfolding seen over pick_items

  later-kept : {σs : List Shape} {x x' : Json} → Later σs x x' → (σ : Shape) → Among σ σs → distinct_names σ ≡ true → SamePick σ x x'
  later-kept unchanged σ a d = record { picked = refl; shown = refl }
  later-kept (afterwards l r) σ a d =
      let p = later-kept l σ a d in
      let q = later-kept r σ a d in
      record { picked = p.picked ∙ q.picked; shown = p.shown ∙ q.shown }
  later-kept (in_array {is = is} {is' = is'} l) σ a d =
      let e = array-alike σ is is' (items_kept l (item_shape σ) (among-map item_shape a) (distinct-item σ d)) in
      record { picked = e; shown = ap once e }
  later-kept (in_object {ms = ms} {ms' = ms'} l) σ a d =
      let e = object-alike σ ms ms' d (λ n h. members_kept l σ a d n h) in
      record { picked = e; shown = ap once e }

  items_kept : {σs : List Shape} {is is' : Items} → LaterItems σs is is' → (σ : Shape) → Among σ σs → distinct_names σ ≡ true →
      pick_items (pick σ) is ≡ pick_items (pick σ) is'
  items_kept no_item' σ a d = refl
  items_kept (item' l r) σ a d = ap₂ picking.item (later-kept l σ a d).picked (items_kept r σ a d)

  members_kept : {σs : List Shape} {ms ms' : Members} → LaterMembers σs ms ms' → (σ : Shape) → Among σ σs → distinct_names σ ≡ true →
      Alike (rows_of σ) ms ms'
  members_kept no_member' σ a d n h = refl
  members_kept (kept {name = m} {x = x} {x' = x'} {ms = ms} {ms' = ms'} l r) σ a d n h =
      let v = later-kept l (member_shape m σ) (among-map (member_shape m) a) (distinct-shape_in (rows_of σ) m (distinct-rows_of σ d)) in
      kept-alike (rows_of σ) n m x x' ms ms' v.shown (members_kept r σ a d n h)
  members_kept (swapped {n = b} {m = m} {x = x} {y = y} {ms = ms}) σ a d n h = swapped-alike (rows_of σ) n b m x y ms
  members_kept (added {name = m} {x = x} {ms = ms} u) σ a d n h = added-alike (rows_of σ) n m x ms (unlisted-each m a u) h
  members_kept (and_then l r) σ a d n h = members_kept l σ a d n h ∙ members_kept r σ a d n h

pub pick-later : {σs : List Shape} {x x' : Json} (σ : Shape) → Among σ σs → distinct_names σ ≡ true → Later σs x x' → pick σ x ≡ pick σ x'
pick-later σ a d l = (later-kept l σ a d).picked

-- where one table counts
pub pick-later₁ : {σ : Shape} {x x' : Json} → distinct_names σ ≡ true → Later (σ ∷ []) x x' → pick σ x ≡ pick σ x'
pick-later₁ {σ} d l = pick-later σ (Memᴰ.head refl) d l
