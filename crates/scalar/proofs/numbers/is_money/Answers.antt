-- An amount or none: the reading of the number as money tells.
use mathlib.Core.Path.{◌∙◌}
use Rattle.scalar.proofs.Ranges.{money_some}
use Rattle.scalar.proofs.numbers.is_money.Goals as goal

pub returns : goal.returns
returns c = c.is_some.ensures ∙ money_some _ _ c.money.ensures
