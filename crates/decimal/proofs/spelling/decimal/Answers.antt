-- The parts are those of the definition.
use Rattle.decimal.specs.inner.Spelling.{made}
use Rattle.decimal.proofs.spelling.decimal.Goals as goal

pub returns : goal.returns
unfolding made
returns c = rw (c.scaled.ensures, c.minus.ensures)
