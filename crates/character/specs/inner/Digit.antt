-- A hexadecimal digit's value, if it is one.
use Rattle.std.specs.Prelude.{List, ℕ, Option, Some, None, Result, Ok, Err}
use Rattle.notation.specs.Choice.{◌⇒◌else◌}
use Rattle.lexeme.specs.Character.{byte, hex_value, hexadecimal}

abbrev pub digit : ℕ → Option ℕ
digit b = hexadecimal b ⇒ Some (hex_value b) else None

-- the digit at a place; its place, if it is none
abbrev pub digit_at : List ℕ → ℕ → Result ℕ ℕ
digit_at l k = hexadecimal (byte l k) ⇒ Ok (hex_value (byte l k)) else Err k
