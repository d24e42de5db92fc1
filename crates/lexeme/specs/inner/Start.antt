-- The first bytes of a value as the code's table of classes has them, and what each says.
use Rattle.std.specs.Prelude.{ℕ, eqb}
use Rattle.notation.specs.Choice.{◌⇒◌else◌}
use Rattle.lexeme.specs.Numbers.{digit}

-- what a first byte says
pub data Start : Type 0 where
  string : Start
  number : Start
  array : Start
  object : Start
  letter_t : Start
  letter_f : Start
  letter_n : Start
  other : Start

unfoldable pub start : ℕ → Start
start b =
    eqb b 0x22 ⇒ string else
    eqb b 0x5b ⇒ array else
    eqb b 0x7b ⇒ object else
    eqb b 0x2d ⇒ number else
    digit b ⇒ number else
    eqb b 0x74 ⇒ letter_t else
    eqb b 0x66 ⇒ letter_f else
    eqb b 0x6e ⇒ letter_n else other
