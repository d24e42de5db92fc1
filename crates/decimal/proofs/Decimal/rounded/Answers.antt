-- A unit has a million millionths, so the part alone is rounded.
use Rattle.decimal.proofs.Millionths.{millionths_split}
use Rattle.decimal.proofs.Decimal.rounded.Goals as goal

pub returns : goal.returns
returns c = millionths_split _
