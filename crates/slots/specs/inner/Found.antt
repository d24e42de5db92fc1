-- What a search for a name leaves known of the place that it found.
use Rattle.std.specs.Prelude.{List, ℕ, ◌≤◌, ◌<◌}
use Rattle.json_text.specs.Tree.{Json}
use Rattle.walk.specs.Walk.{part}
use Rattle.walk.specs.Part.{part_tree}
use Rattle.schema.specs.Pick.{Slot, missing, once, twice}
use Rattle.slots.specs.declared.Found.{Found}
use Rattle.slots.specs.declared.Found.TheVariants.{Missing, Once, Twice}

-- the tree that stands there
abbrev pub tree_in : List ℕ → Found → Slot Json
tree_in p Missing = missing
tree_in p (Once from upto) = once (part_tree (part p from upto))
tree_in p Twice = twice

-- its places are within n bytes
abbrev pub Within : ℕ → Found → Type 0
Within n Missing = Unit {0}
Within n (Once from upto) = (from < upto) × (upto ≤ n)
Within n Twice = Unit {0}
