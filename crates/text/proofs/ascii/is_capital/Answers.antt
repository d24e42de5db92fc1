-- A range's two tests are the definition's.
use mathlib.Core.Path.{◌∙◌}
use lib.Dec.{leb}
use Rattle.notation.proofs.Booleans.{both-is}
use Rattle.lexeme.specs.Character.{within}
use Rattle.text.proofs.ascii.is_capital.Goals as goal

pub returns : goal.returns
unfolding within
returns c = c.is_ascii_uppercase.ensures.value ∙ both-is (leb 65 c.args.b) (leb c.args.b 90)
