-- A number in the form is below 0 just where it has a sign.
use Rattle.decimal.proofs.Tests.{natural-is}
use Rattle.decimal.proofs.Decimal.natural.Goals as goal

pub returns : goal.returns
returns c = natural-is _ c.requires
