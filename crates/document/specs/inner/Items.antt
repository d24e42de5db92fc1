-- The items of an array in a file's bytes, each picked by its own bytes.
use Rattle.std.specs.Prelude.{List, map, ℕ}
use Rattle.walk.specs.declared.Item.{Item}
use Rattle.walk.specs.Walk.{part, items_of}
use Rattle.walk.specs.Part.{part_tree}
use Rattle.schema.specs.Shape.{Shape}
use Rattle.schema.specs.Pick.{Picked, pick}

-- an item of the array p, picked; and all of them
abbrev pub picked : Shape → List ℕ → Item → Picked
picked σ p m = pick σ (part_tree (part p m.value m.value_end))

abbrev pub picked_items : Shape → List ℕ → List Picked
picked_items σ p = map (λ m. picked σ p m) (items_of p)
