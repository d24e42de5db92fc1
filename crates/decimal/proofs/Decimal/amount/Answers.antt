-- A unit has ten thousand ten-thousandths, so the part alone is divided.
use Rattle.decimal.proofs.Tests.{amount-parts}
use Rattle.decimal.proofs.Decimal.amount.Goals as goal

pub returns : goal.returns
returns c = amount-parts _
