-- Demand 3's later tree: what a tree becomes when members change places and new ones come in that no table lists. What is listed at a place
-- is said by shapes, one for each table that counts, and a name comes in only where none of them has it.
use Rattle.std.specs.Prelude.{Bool, true, false, List, [], ◌∷◌, map, ◌≡◌, ℕ}
use Rattle.notation.specs.Choice.{◌⇒◌else◌}
use Rattle.text.specs.Text.{same}
use Rattle.json_text.specs.Tree.{Json, Items, Members, array, object, no_item, item, no_member, member}
use Rattle.schema.specs.Shape as shape
use Rattle.schema.specs.Shape.{Shape, Rows}

-- what the table has for the items of an array
unfoldable pub item_shape : Shape → Shape
item_shape shape.unlisted = shape.unlisted
item_shape (shape.scalar sort) = shape.unlisted
item_shape (shape.array numbering most σ) = σ
item_shape (shape.object rows) = shape.unlisted

-- whether it lists a member of this name, and what it has for it
unfoldable pub rows_of : Shape → Rows
rows_of shape.unlisted = shape.no_row
rows_of (shape.scalar sort) = shape.no_row
rows_of (shape.array numbering most σ) = shape.no_row
rows_of (shape.object rows) = rows

unfoldable pub listed_in : Rows → List ℕ → Bool
listed_in shape.no_row name = false
listed_in (shape.row field need n σ rows) name = same name n ⇒ true else listed_in rows name

unfoldable pub shape_in : Rows → List ℕ → Shape
shape_in shape.no_row name = shape.unlisted
shape_in (shape.row field need n σ rows) name = same name n ⇒ σ else shape_in rows name

abbrev pub member_shape : List ℕ → Shape → Shape
member_shape name σ = shape_in (rows_of σ) name

-- some of the shapes lists the name
unfoldable pub listed : List Shape → List ℕ → Bool
listed [] name = false
listed (σ ∷ σs) name = listed_in (rows_of σ) name ⇒ true else listed σs name

mutual
  -- at a place for which the tables have the shapes σs, the second tree is later than the first
  pub data Later : List Shape → Json → Json → Type 0 where
    unchanged : {σs : List Shape} {x : Json} → Later σs x x
    afterwards : {σs : List Shape} {x y z : Json} → Later σs x y → Later σs y z → Later σs x z
    in_array : {σs : List Shape} {is is' : Items} → LaterItems (map item_shape σs) is is' → Later σs (array is) (array is')
    in_object : {σs : List Shape} {ms ms' : Members} → LaterMembers σs ms ms' → Later σs (object ms) (object ms')

  pub data LaterItems : List Shape → Items → Items → Type 0 where
    no_item' : {σs : List Shape} → LaterItems σs no_item no_item
    item' : {σs : List Shape} {x x' : Json} {is is' : Items} →
        Later σs x x' → LaterItems σs is is' → LaterItems σs (item x is) (item x' is')

  pub data LaterMembers : List Shape → Members → Members → Type 0 where
    no_member' : {σs : List Shape} → LaterMembers σs no_member no_member
    -- a member stays, with a later value
    kept : {σs : List Shape} {name : List ℕ} {x x' : Json} {ms ms' : Members} →
        Later (map (member_shape name) σs) x x' → LaterMembers σs ms ms' → LaterMembers σs (member name x ms) (member name x' ms')
    -- two members change places
    swapped : {σs : List Shape} {n m : List ℕ} {x y : Json} {ms : Members} →
        LaterMembers σs (member n x (member m y ms)) (member m y (member n x ms))
    -- an unlisted member comes in, whatever it holds
    added : {σs : List Shape} {name : List ℕ} {x : Json} {ms : Members} →
        listed σs name ≡ false → LaterMembers σs ms (member name x ms)
    and_then : {σs : List Shape} {ms ms' ms'' : Members} → LaterMembers σs ms ms' → LaterMembers σs ms' ms'' → LaterMembers σs ms ms''
