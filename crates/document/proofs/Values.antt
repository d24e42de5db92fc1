-- What the bytes say is what is picked: a member's bytes hold the value of the field of its row, and by their kind they give its spelling, its
-- text or its items.
use mathlib.Core.Bool.{Bool, true, false}
use mathlib.Core.List.{List, []}
use mathlib.Core.Path.{◌≡◌, refl, sym, ap, ◌∙◌}
use Prim.Native.Nat.{ℕ}
use lib.Dec.{eqb}
use lib.ListN.{length, get_or}
use borrow.Author.Tests.{lt-ltb}
use Rattle.notation.specs.Choice.{◌⇒◌else◌}
use Rattle.lexeme.specs.Character.{within}
use Rattle.lexeme.specs.Numbers.{digit}
use Rattle.lexeme.specs.inner.Start.{start}
use Rattle.json_text.specs.Tree as tree
use Rattle.json_text.specs.Tree.{Json}
use Rattle.walk.specs.Walk.{part, items_of, items_from}
use Rattle.walk.specs.Part.{Whole, part_tree, kind_of, inside}
use Rattle.walk.specs.inner.Kind.{kind_at}
use Rattle.walk.proofs.Wholes.{whole-kind, whole-some, whole-boolean, whole-number, whole-string}
use Rattle.walk.proofs.Parts.{item_of}
use Rattle.walk.proofs.Trees.{array_parts}
use Rattle.text.specs.Text.{text_of}
use Rattle.schema.specs.Shape as shape
use Rattle.schema.specs.Shape.{Shape, Rows, Sort, Numbering}
use Rattle.schema.specs.Pick.{Picked, missing, once, unless_blank, pick, pick_items, emptied, bare, list_of}
use Rattle.slots.specs.declared.Found.{Found}
use Rattle.slots.specs.declared.Found.TheVariants.{Missing, Once, Twice}
use Rattle.slots.specs.Found.{found_in}
use Rattle.slots.specs.inner.Found.{tree_in}
use Rattle.slots.specs.inner.Blank.{blank_text}
use Rattle.slots.proofs.Finds.{find-found, found-value}
use Rattle.slots.proofs.Picks.{unless-blank}
use Rattle.document.specs.Document as document
use Rattle.document.specs.Document.{once_only, field, elements_of, then, text_in, spelling_in, truth_in}
use Rattle.document.proofs.Rows.{Lists, over, at_row}
use Rattle.document.proofs.Records.{list_each}
use Rattle.document.specs.inner.Items.{picked_items}
use Rattle.document.specs.inner.Values.{kind_code, found_bytes, member_of, truth_by, spelled_by, text_by, array_by, there_by}
use Rattle.std.specs.Prelude.{Option, None, Some}

-- the bytes q hold what is picked by σ; or there is nothing
abbrev pub Holds : Shape → List ℕ → Option Picked → Type 0
Holds σ q None = q ≡ []
Holds σ q (Some y) = (x : Json) × Whole q x × (pick σ x ≡ y)

-- a kind's number, of a whole value
whole_code : {q : List ℕ} {x : Json} → Whole q x → kind_code (kind_at q) ≡ kind_code (kind_of x)
whole_code w = ap kind_code (whole-kind w)

-- no bytes are of no kind that is asked for
nothing-there : kind_code (kind_at []) ≡ 0
unfolding kind_at start digit within
nothing-there = refl

-- a member of an object
module _ (σ : Shape) (p : List ℕ) where
  held-unless : (b : Bool) (q : List ℕ) (x : Json) → Whole q x → b ≡ blank_text x
      → Holds σ (b ⇒ [] else q) (once_only (over (pick σ) (b ⇒ missing else once x)))
  held-unless true q x w e = refl
  held-unless false q x w e = (x, w, refl)

  held_found : (name : List ℕ) (o : Found) → found_in p name ≡ o → Holds σ (found_bytes p o) (once_only (over (pick σ) (unless_blank (tree_in p o))))
  held_found name Missing e = refl
  held_found name (Once from upto) e =
      let q = part p from upto in
      rw (unless-blank (part_tree q)) (held-unless (blank_text (part_tree q)) q (part_tree q) (found-value p name from upto e).whole refl)
  held_found name Twice e = refl

-- nothing else has members
no_member : (p name : List ℕ) → eqb (kind_code (kind_at p)) 5 ≡ false → member_of p name ≡ []
unfolding member_of
no_member p name e = rw e

in_object : (p name : List ℕ) → eqb (kind_code (kind_at p)) 5 ≡ true → member_of p name ≡ found_bytes p (found_in p name)
unfolding member_of
in_object p name e = rw e

pub member-holds : {f : ℕ} {name : List ℕ} {σ : Shape} {rows : Rows} → Lists f name σ rows → (p : List ℕ) (x : Json) → Whole p x
    → Holds σ (member_of p name) (field f (pick (shape.object rows) x))
unfolding field pick
member-holds {name = name} l p tree.null w = no_member p name (ap (λ (n : ℕ). eqb n 5) (whole_code w))
member-holds {name = name} l p (tree.boolean b) w = no_member p name (ap (λ (n : ℕ). eqb n 5) (whole_code w))
member-holds {name = name} l p (tree.number s) w = no_member p name (ap (λ (n : ℕ). eqb n 5) (whole_code w))
member-holds {name = name} l p (tree.string s) w = no_member p name (ap (λ (n : ℕ). eqb n 5) (whole_code w))
member-holds {name = name} l p (tree.array is) w = no_member p name (ap (λ (n : ℕ). eqb n 5) (whole_code w))
member-holds {name = name} {σ = σ} l p (tree.object ms) w =
    rw (in_object p name (ap (λ (n : ℕ). eqb n 5) (whole_code w)), at_row l ms, find-found p name w) (held_found σ p name (found_in p name) refl)

-- there or not
pub holds-there : (σ : Shape) (q : List ℕ) (o : Option Picked) → Holds σ q o → there_by q ≡ document.given o
holds-there σ q None h = ap there_by h
holds-there σ q (Some y) h = lt-ltb 0 (length q) (whole-some h.1)

-- by the kind
module _ (q : List ℕ) where
  truth-is : (b : Bool) → eqb (kind_code (kind_at q)) 1 ≡ b → truth_by q ≡ (b ⇒ Some (eqb (get_or q 0 0) 0x74) else None)
  unfolding truth_by
  truth-is b e = rw e

  spelled_is : (b : Bool) → eqb (kind_code (kind_at q)) 2 ≡ b → spelled_by q ≡ (b ⇒ Some q else None)
  unfolding spelled_by
  spelled_is b e = rw e

  text-is : (b : Bool) → eqb (kind_code (kind_at q)) 3 ≡ b → text_by q ≡ (b ⇒ Some (text_of (inside q)) else None)
  unfolding text_by
  text-is b e = rw e

  array-is : (b : Bool) → eqb (kind_code (kind_at q)) 4 ≡ b → array_by q ≡ (b ⇒ q else [])
  unfolding array_by
  array-is b e = rw e

  whole_test : (k : ℕ) (x : Json) → Whole q x → eqb (kind_code (kind_at q)) k ≡ eqb (kind_code (kind_of x)) k
  whole_test k x w = ap (λ (n : ℕ). eqb n k) (whole_code w)

  truth-whole : (x : Json) → Whole q x → truth_by q ≡ truth_in (bare (emptied x))
  truth-whole tree.null w = truth-is false (whole_test 1 _ w)
  truth-whole (tree.boolean b) w = truth-is true (whole_test 1 _ w) ∙ ap Some (whole-boolean w)
  truth-whole (tree.number s) w = truth-is false (whole_test 1 _ w)
  truth-whole (tree.string s) w = truth-is false (whole_test 1 _ w)
  truth-whole (tree.array is) w = truth-is false (whole_test 1 _ w)
  truth-whole (tree.object ms) w = truth-is false (whole_test 1 _ w)

  spelled-whole : (x : Json) → Whole q x → spelled_by q ≡ spelling_in (bare (emptied x))
  spelled-whole tree.null w = spelled_is false (whole_test 2 _ w)
  spelled-whole (tree.boolean b) w = spelled_is false (whole_test 2 _ w)
  spelled-whole (tree.number s) w = spelled_is true (whole_test 2 _ w) ∙ ap Some (sym (whole-number w))
  spelled-whole (tree.string s) w = spelled_is false (whole_test 2 _ w)
  spelled-whole (tree.array is) w = spelled_is false (whole_test 2 _ w)
  spelled-whole (tree.object ms) w = spelled_is false (whole_test 2 _ w)

  text-whole : (x : Json) → Whole q x → text_by q ≡ text_in (bare (emptied x))
  text-whole tree.null w = text-is false (whole_test 3 _ w)
  text-whole (tree.boolean b) w = text-is false (whole_test 3 _ w)
  text-whole (tree.number s) w = text-is false (whole_test 3 _ w)
  text-whole (tree.string s) w = text-is true (whole_test 3 _ w) ∙ ap Some (sym (whole-string w))
  text-whole (tree.array is) w = text-is false (whole_test 3 _ w)
  text-whole (tree.object ms) w = text-is false (whole_test 3 _ w)

module _ (sort : Sort) where
  pub holds-truth : (q : List ℕ) (o : Option Picked) → Holds (shape.scalar sort) q o → truth_by q ≡ then o truth_in
  unfolding pick
  holds-truth q None h = ap truth_by h ∙ truth-is [] false (ap (λ (n : ℕ). eqb n 1) nothing-there)
  holds-truth q (Some y) h = truth-whole q h.0 h.1 ∙ ap truth_in h.2

  pub holds_spelled : (q : List ℕ) (o : Option Picked) → Holds (shape.scalar sort) q o → spelled_by q ≡ then o spelling_in
  unfolding pick
  holds_spelled q None h = ap spelled_by h ∙ spelled_is [] false (ap (λ (n : ℕ). eqb n 2) nothing-there)
  holds_spelled q (Some y) h = spelled-whole q h.0 h.1 ∙ ap spelling_in h.2

  pub holds_text : (q : List ℕ) (o : Option Picked) → Holds (shape.scalar sort) q o → text_by q ≡ then o text_in
  unfolding pick
  holds_text q None h = ap text_by h ∙ text-is [] false (ap (λ (n : ℕ). eqb n 3) nothing-there)
  holds_text q (Some y) h = text-whole q h.0 h.1 ∙ ap text_in h.2

-- the items of an array
module _ (numbering : Numbering) (most : ℕ) (σ : Shape) where
  no_items : (q : List ℕ) → eqb (kind_code (kind_at q)) 4 ≡ false → picked_items σ (array_by q) ≡ []
  unfolding items_of items_from
  no_items q e = rw (array-is q false e)

  items-whole : (q : List ℕ) (x : Json) → Whole q x → picked_items σ (array_by q) ≡ elements_of (Some (pick (shape.array numbering most σ) x))
  unfolding pick
  items-whole q tree.null w = no_items q (whole_test q 4 _ w)
  items-whole q (tree.boolean b) w = no_items q (whole_test q 4 _ w)
  items-whole q (tree.number s) w = no_items q (whole_test q 4 _ w)
  items-whole q (tree.string s) w = no_items q (whole_test q 4 _ w)
  items-whole q (tree.array is) w =
      ap (picked_items σ) (array-is q true (whole_test q 4 _ w))
      ∙ sym (ap (λ js. list_of (pick_items (λ y. pick σ y) js)) (array_parts q w) ∙ list_each (λ y. pick σ y) (items_of q) (λ m. part_tree (item_of q m)))
  items-whole q (tree.object ms) w = no_items q (whole_test q 4 _ w)

  pub holds-items : (q : List ℕ) (o : Option Picked) → Holds (shape.array numbering most σ) q o → picked_items σ (array_by q) ≡ elements_of o
  holds-items q None h = ap (λ z. picked_items σ (array_by z)) h ∙ no_items [] (ap (λ (n : ℕ). eqb n 4) nothing-there)
  holds-items q (Some y) h = items-whole q h.0 h.1 ∙ ap (λ z. elements_of (Some z)) h.2
