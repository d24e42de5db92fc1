-- What is picked of an object, by its slots: for the row at the front, what its slot holds, and then what is picked for the rows below it.
use mathlib.Core.Bool.{Bool, true}
use mathlib.Core.List.{List, [], ◌∷◌}
use mathlib.Core.Path.{◌≡◌, refl, sym, ap, ◌∙◌}
use Prim.Native.Nat.{ℕ, suc, ◌+◌, ◌≤◌, ◌<◌}
use native.Mathlib.Omega.{arith}
use lib.ListN.{length, get_or}
use Rattle.notation.specs.Choice.{◌⇒◌else◌}
use Rattle.json_text.specs.Tree as tree
use Rattle.json_text.specs.Tree.{Json, Members}
use Rattle.walk.specs.Walk.{part}
use Rattle.walk.specs.Part.{Whole, part_tree}
use Rattle.schema.specs.Shape as shape
use Rattle.schema.specs.Shape.{Rows, Shape, Need}
use Rattle.schema.specs.inner.Sound.{distinct_rows}
use Rattle.schema.specs.Tables.{sheets}
use Rattle.schema.specs.Pick.{Slot, missing, once, unless_empty, unless_blank, put, no_slot, pick, pick_rows}
use Rattle.schema.proofs.Walk.{Laid, lines_in}
use Rattle.slots.specs.declared.Found.TheVariants.{Once}
use Rattle.slots.specs.declared.Slots.{Slots}
use Rattle.slots.specs.Found.{found_in}
use Rattle.slots.specs.inner.Found.{tree_in}
use Rattle.slots.specs.inner.Rows.{most_rows, names_in, line_names}
use Rattle.slots.specs.inner.Slots.{slot_at, gathered, Gathered}
use Rattle.slots.specs.inner.Blank.{blank_text}
use Rattle.slots.proofs.Finds.{find-found}
use Rattle.slots.proofs.Filled.{gathered-slot}

-- the slots from k on are those of these rows
abbrev pub Slotted : List ℕ → Slots → ℕ → Rows → Type 0
Slotted p s k shape.no_row = Unit {0}
Slotted p s k (shape.row field need name σ rows) = (slot_at s k ≡ found_in p name) × Slotted p s (k + 1) rows

slotted_from : (p : List ℕ) (s : Slots) (rows : Rows) (k : ℕ) → ((j : ℕ) → j < length (names_in rows) → slot_at s (k + j) ≡ found_in p (get_or (names_in rows) j []))
    → Slotted p s k rows
unfolding names_in
slotted_from p s shape.no_row k h = tt
slotted_from p s (shape.row field need name σ rows) k h =
    let z : k ≡ k + 0 = omega arith in
    (ap (slot_at s) z ∙ h 0 (omega arith), slotted_from p s rows (k + 1) (λ j i. let n : k + 1 + j ≡ k + suc j = omega arith in ap (slot_at s) n ∙ h (suc j) (omega arith)))

-- those of the rows at these lines
pub slotted_all : (p : List ℕ) (first count : ℕ) (s : Slots) → s ≡ gathered p (line_names first count) → (rows : Rows) → Laid sheets first rows → lines_in rows ≡ count
    → distinct_rows rows ≡ true → length (names_in rows) ≤ most_rows → Slotted p s 0 rows
slotted_all p first count s e rows l c d few =
    slotted_from p s rows 0 (λ j h. let n : 0 + j ≡ j = omega arith in rw e (ap (slot_at (gathered p (line_names first count))) n ∙ gathered-slot p first count rows l c d few j h))

module _ {p : List ℕ} {ms : Members} (w : Whole p (Json.object ms)) where
  pub slotted : (first count : ℕ) (s : Slots) → Gathered p first count s → (rows : Rows) → Laid sheets first rows → lines_in rows ≡ count
      → distinct_rows rows ≡ true → length (names_in rows) ≤ most_rows → Slotted p s 0 rows
  slotted first count s g rows l c d few =
      slotted_from p s rows 0 (λ j h. let n : 0 + j ≡ j = omega arith in ap (slot_at s) n ∙ g.slot w rows l c d few j h)

  pub pick-row : (field : ℕ) (need : Need) (name : List ℕ) (σ : Shape) (rows : Rows)
      → pick_rows (shape.row field need name σ rows) ms ≡ put field (λ y. pick σ y) (unless_blank (tree_in p (found_in p name))) (pick_rows rows ms)
  unfolding pick_rows
  pick-row field need name σ rows = ap (λ (o : Slot Json). put field (λ y. pick σ y) (unless_blank o) (pick_rows rows ms)) (find-found p name w)

  -- the same by the slot
  pub pick-slot : (s : Slots) (k field : ℕ) (need : Need) (name : List ℕ) (σ : Shape) (rows : Rows) → Slotted p s k (shape.row field need name σ rows)
      → pick_rows (shape.row field need name σ rows) ms ≡ put field (λ y. pick σ y) (unless_blank (tree_in p (slot_at s k))) (pick_rows rows ms)
  pick-slot s k field need name σ rows h =
      pick-row field need name σ rows ∙ ap (λ o. put field (λ y. pick σ y) (unless_blank (tree_in p o)) (pick_rows rows ms)) (sym h.0)

pub pick-none : (ms : Members) → pick_rows shape.no_row ms ≡ no_slot
unfolding pick_rows
pick-none ms = refl

-- a text with nothing in it counts as missing
pub unless-blank : (x : Json) → unless_empty x ≡ (blank_text x ⇒ missing else once x)
unless-blank tree.null = refl
unless-blank (tree.boolean b) = refl
unless-blank (tree.number s) = refl
unless-blank (tree.string []) = refl
unless-blank (tree.string (b ∷ s)) = refl
unless-blank (tree.array is) = refl
unless-blank (tree.object ms) = refl

-- so a slot that holds one value is given unless that value is blank
pub given-once : (p : List ℕ) (from upto : ℕ) (b : Bool) → b ≡ blank_text (part_tree (part p from upto))
    → unless_blank (tree_in p (Once from upto)) ≡ (b ⇒ missing else once (part_tree (part p from upto)))
given-once p from upto b e = rw e (unless-blank (part_tree (part p from upto)))
