-- A JSON text as a tree, by document 01's last section. An object keeps all its members, each a decoded name with a value, also where a
-- name comes again; an array keeps its items' order; a string is its decoded bytes, and a number the way it is spelled.
use Rattle.std.specs.Prelude.{Bool, List, [], ◌∷◌, ℕ}

mutual
  pub data Json : Type 0 where
    null : Json
    boolean : Bool → Json
    number : List ℕ → Json
    string : List ℕ → Json
    array : Items → Json
    object : Members → Json

  pub data Items : Type 0 where
    no_item : Items
    item : Json → Items → Items

  pub data Members : Type 0 where
    no_member : Members
    member : List ℕ → Json → Members → Members

-- lists of items and of members, as a tree holds them
unfoldable pub as_items : List Json → Items
as_items [] = no_item
as_items (j ∷ js) = item j (as_items js)

unfoldable pub as_members : List (List ℕ × Json) → Members
as_members [] = no_member
as_members (m ∷ ms) = member m.0 m.1 (as_members ms)
