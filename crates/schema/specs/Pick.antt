-- The picked document: of a tree, what a table lists, in the table's order. Everything that is judged, quoted or answered is a function
-- of it, so order of members, unlisted members, blanks and spellings cannot matter.
use Rattle.std.specs.Prelude.{Bool, List, [], ◌∷◌, ℕ, eqb}
use Rattle.notation.specs.Choice.{◌⇒◌else◌}
use Rattle.text.specs.Text.{same}
use Rattle.json_text.specs.Tree as tree
use Rattle.json_text.specs.Tree.{Json, Items, Members}
use Rattle.schema.specs.Shape as shape
use Rattle.schema.specs.Shape.{Shape, Rows}

-- how often a name stands in an object
pub data Slot (A : Type 0) : Type 0 where
  missing : Slot A
  once : A → Slot A
  twice : Slot A

-- one occurrence more, in front
abbrev pub again : {A : Type 0} → A → Slot A → Slot A
again x missing = once x
again x (once y) = twice
again x twice = twice

unfoldable pub find : List ℕ → Members → Slot Json
find name tree.no_member = missing
find name (tree.member n x ms) = same name n ⇒ again x (find name ms) else find name ms

mutual
  pub data Picked : Type 0 where
    -- a value in which the table lists nothing; an array or object is left with nothing in it
    bare : Json → Picked
    items : PickedItems → Picked
    slots : Slots → Picked

  pub data PickedItems : Type 0 where
    no_item : PickedItems
    item : Picked → PickedItems → PickedItems

  -- row by row, each slot under its field's number
  pub data Slots : Type 0 where
    no_slot : Slots
    absent : (field : ℕ) → Slots → Slots
    repeated : (field : ℕ) → Slots → Slots
    present : (field : ℕ) → Picked → Slots → Slots

-- a value with nothing in it
abbrev pub emptied : Json → Json
emptied tree.null = tree.null
emptied (tree.boolean b) = tree.boolean b
emptied (tree.number s) = tree.number s
emptied (tree.string s) = tree.string s
emptied (tree.array is) = tree.array tree.no_item
emptied (tree.object ms) = tree.object tree.no_member

abbrev pub in_array : (Items → PickedItems) → Json → Picked
in_array f tree.null = bare tree.null
in_array f (tree.boolean b) = bare (tree.boolean b)
in_array f (tree.number s) = bare (tree.number s)
in_array f (tree.string s) = bare (tree.string s)
in_array f (tree.array is) = items (f is)
in_array f (tree.object ms) = bare (tree.object tree.no_member)

abbrev pub in_object : (Members → Slots) → Json → Picked
in_object f tree.null = bare tree.null
in_object f (tree.boolean b) = bare (tree.boolean b)
in_object f (tree.number s) = bare (tree.number s)
in_object f (tree.string s) = bare (tree.string s)
in_object f (tree.array is) = bare (tree.array tree.no_item)
in_object f (tree.object ms) = slots (f ms)

unfoldable pub pick_items : (Json → Picked) → Items → PickedItems
pick_items f tree.no_item = no_item
pick_items f (tree.item x is) = item (f x) (pick_items f is)

-- a member that holds "" counts as missing; not so one of two, which are twice there
abbrev pub unless_empty : Json → Slot Json
unless_empty tree.null = once tree.null
unless_empty (tree.boolean b) = once (tree.boolean b)
unless_empty (tree.number s) = once (tree.number s)
unless_empty (tree.string []) = missing
unless_empty (tree.string (b ∷ s)) = once (tree.string (b ∷ s))
unless_empty (tree.array is) = once (tree.array is)
unless_empty (tree.object ms) = once (tree.object ms)

abbrev pub unless_blank : Slot Json → Slot Json
unless_blank missing = missing
unless_blank (once x) = unless_empty x
unless_blank twice = twice

abbrev pub put : ℕ → (Json → Picked) → Slot Json → Slots → Slots
put field f missing rest = absent field rest
put field f (once x) rest = present field (f x) rest
put field f twice rest = repeated field rest

unfoldable mutual
  pub pick : Shape → Json → Picked
  pick shape.unlisted x = bare (emptied x)
  pick (shape.scalar sort) x = bare (emptied x)
  pick (shape.array numbering most σ) x = in_array (λ is. pick_items (λ y. pick σ y) is) x
  pick (shape.object rows) x = in_object (λ ms. pick_rows rows ms) x

  pub pick_rows : Rows → Members → Slots
  pick_rows shape.no_row ms = no_slot
  pick_rows (shape.row field need name σ rows) ms = put field (λ y. pick σ y) (unless_blank (find name ms)) (pick_rows rows ms)

-- the slot of a field
unfoldable pub slot_of : ℕ → Slots → Slot Picked
slot_of field no_slot = missing
slot_of field (absent f rest) = eqb field f ⇒ missing else slot_of field rest
slot_of field (repeated f rest) = eqb field f ⇒ twice else slot_of field rest
slot_of field (present f x rest) = eqb field f ⇒ once x else slot_of field rest

-- the items of an array as a list
unfoldable pub list_of : PickedItems → List Picked
list_of no_item = []
list_of (item x is) = x ∷ list_of is

-- the items of an array; anything else has none
abbrev pub elements : Picked → List Picked
elements (items is) = list_of is
elements (bare x) = []
elements (slots ss) = []

-- by what a single value is: the truth of a boolean, the spelling of a number, the text of a string; anything else is `other`
abbrev pub by_value : {A : Type 0} → (Bool → A) → (List ℕ → A) → (List ℕ → A) → (other : A) → Picked → A
by_value truth spelling text other (bare tree.null) = other
by_value truth spelling text other (bare (tree.boolean b)) = truth b
by_value truth spelling text other (bare (tree.number s)) = spelling s
by_value truth spelling text other (bare (tree.string s)) = text s
by_value truth spelling text other (bare (tree.array is)) = other
by_value truth spelling text other (bare (tree.object ms)) = other
by_value truth spelling text other (items is) = other
by_value truth spelling text other (slots ss) = other
