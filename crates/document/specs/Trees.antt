-- Where the records of a file stand in its tree: document 01, "Field table". They are the items of the array under the names that lead to it.
use Rattle.std.specs.Prelude.{List, [], ◌∷◌, map, ℕ, zero, suc, Option, None, Some}
use Rattle.json_text.specs.Tree as tree
use Rattle.json_text.specs.Tree.{Json, Items}
use Rattle.schema.specs.Shape.{Shape}
use Rattle.schema.specs.Records.{way_in}
use Rattle.schema.specs.Pick.{find}
use Rattle.document.specs.Document.{once_only}

-- the value that an object has under a name, where it has just one
abbrev pub member : List ℕ → Json → Option Json
member name (tree.object ms) = once_only (find name ms)
member name (tree.array is) = None
member name (tree.string s) = None
member name (tree.number s) = None
member name (tree.boolean b) = None
member name tree.null = None

-- the value behind a path of names
unfoldable pub value_along : List (List ℕ) → Json → Option Json
value_along [] x = Some x
value_along (name ∷ names) x = elim (member name x) [ None ↦ None | Some y ↦ value_along names y ]

-- the items of an array; none where there is no array
unfoldable pub listed : Items → List Json
listed tree.no_item = []
listed (tree.item x is) = x ∷ listed is

abbrev pub items_in : Option Json → List Json
items_in (Some (tree.array is)) = listed is
items_in (Some (tree.object ms)) = []
items_in (Some (tree.string s)) = []
items_in (Some (tree.number s)) = []
items_in (Some (tree.boolean b)) = []
items_in (Some tree.null) = []
items_in None = []

-- the records of a file of this shape and tree
unfoldable pub record_trees : Shape → Json → List Json
record_trees σ x = elim (way_in σ) [ None ↦ [] | Some w ↦ items_in (value_along (map (λ k. k.name) w.keys) x) ]

-- the n-th of a list, counted from 1
unfoldable pub numbered : {A : Type 0} → ℕ → List A → Option A
numbered n [] = None
numbered zero (x ∷ l) = None
numbered (suc zero) (x ∷ l) = Some x
numbered (suc (suc n)) (x ∷ l) = numbered (suc n) l
