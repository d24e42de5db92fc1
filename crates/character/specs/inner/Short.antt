-- What the byte after a backslash stands for, if it makes an escape of two bytes.
use Rattle.std.specs.Prelude.{ℕ, eqb, Option, Some, None}
use Rattle.notation.specs.Choice.{◌⇒◌else◌}
use Rattle.lexeme.specs.Character as spec

abbrev pub short : ℕ → Option ℕ
short b = eqb (spec.short b) 0 ⇒ None else Some (spec.short b)
