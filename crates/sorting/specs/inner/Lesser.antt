-- The lesser of two numbers, of which 0 is none.
use Rattle.std.specs.Prelude.{ℕ, eqb, ltb}
use Rattle.notation.specs.Choice.{◌⇒◌else◌}

unfoldable pub lesser : ℕ → ℕ → ℕ
lesser a b = eqb b 0 ⇒ a else eqb a 0 ⇒ b else ltb b a ⇒ b else a
