-- A range's two tests are the definition's.
use mathlib.Core.Path.{◌∙◌}
use lib.Dec.{leb}
use Rattle.notation.proofs.Booleans.{both-is}
use Rattle.lexeme.specs.Character.{within}
use Rattle.lexeme.specs.Numbers.{digit}
use Rattle.decimal.proofs.spelling.is_digit.Goals as goal

pub returns : goal.returns
unfolding digit within
returns c = c.is_ascii_digit.ensures.value ∙ both-is (leb 48 c.args.b) (leb c.args.b 57)
