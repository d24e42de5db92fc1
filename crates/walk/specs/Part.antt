-- The tree of a value's bytes, as every later layer means it: a part of a file that stage A passed, read by itself.
use Rattle.std.specs.Prelude.{◌≡◌, List, [], ℕ, ◌-◌, length, drop, take}
use Rattle.limits.specs.Ceilings.{depth}
use Rattle.lexeme.specs.Read.Read.{done, bad}
use Rattle.lexeme.specs.Character.{paired}
use Rattle.json_text.specs.Tree.{Json}
use Rattle.json_text.specs.Text.{value}
use Rattle.walk.specs.declared.ValueKind.{ValueKind}
use Rattle.walk.specs.declared.ValueKind.TheVariants as kind

-- p is one value, whole, of the tree x
pub record Whole (p : List ℕ) (x : Json) : Type 0 where
  pub reads : value paired depth p ≡ done x []

-- its tree; null where p is no value
unfoldable pub part_tree : List ℕ → Json
part_tree p = elim (value paired depth p) [ done x r ↦ x | bad k r ↦ Json.null ]

-- the kind of a tree
abbrev pub kind_of : Json → ValueKind
kind_of Json.null = kind.Null
kind_of (Json.boolean b) = kind.Boolean
kind_of (Json.number s) = kind.Number
kind_of (Json.string s) = kind.String
kind_of (Json.array is) = kind.Array
kind_of (Json.object ms) = kind.Object

-- what stands between a string's quotation marks
abbrev pub inside : List ℕ → List ℕ
inside p = take (length p - 2) (drop 1 p)
