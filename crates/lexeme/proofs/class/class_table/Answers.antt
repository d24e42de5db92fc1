-- The table is the one of the laws on classes.
use Rattle.lexeme.specs.Character.{within}
use Rattle.lexeme.specs.inner.Lead.{lead}
use Rattle.lexeme.specs.Numbers.{digit, either}
use Rattle.lexeme.specs.Tokens.{blank}
use Rattle.lexeme.specs.inner.Start.{start}
use Rattle.lexeme.proofs.Classes.{classifies}
use Rattle.lexeme.proofs.class.class_table.Goals as goal

pub returns : goal.returns
unfolding lead start blank digit within either
returns c = classifies
