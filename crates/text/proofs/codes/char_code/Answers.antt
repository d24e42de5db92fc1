-- What is read there is the character, or there is none.
use mathlib.Core.Path.{sym, ◌∙◌}
use native.Mathlib.Omega.{arith}
use Rattle.text.proofs.Packed.{char-coded}
use Rattle.text.proofs.codes.char_code.Goals as goal

pub returns : goal.returns
returns c h =
    char-coded c.args.s.now c.args.at c.requires c.in-Character.x (sym c.next_char.ensures ∙ c.in-Character.is) (c.pack.ensures h)

pub returns-in_default : goal.returns-in_default
returns-in_default c h = absurd (omega arith)
