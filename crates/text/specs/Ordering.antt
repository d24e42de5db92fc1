-- Byte strings in order: by the first byte in which they differ, as a number from 0 to 255; a string comes before all that go on from it.
use Rattle.std.specs.Prelude.{List, [], ◌∷◌, ℕ, ltb}
use Rattle.notation.specs.Choice.{◌⇒◌else◌}
use Rattle.std.specs.declared.cmp.Ordering.{Ordering}
use Rattle.std.specs.declared.cmp.Ordering.TheVariants.{Less, Equal, Greater}

unfoldable pub order_of : List ℕ → List ℕ → Ordering
order_of [] [] = Equal
order_of [] (b ∷ y) = Less
order_of (a ∷ x) [] = Greater
order_of (a ∷ x) (b ∷ y) = ltb a b ⇒ Less else ltb b a ⇒ Greater else order_of x y
