-- The difference of two numbers is above zero where the second is less.
use mathlib.Core.Path.{sym}
use Rattle.signed.proofs.Gap.{gap, gap_above}
use Rattle.geometry.proofs.Balance.above_zero.Goals as goal

pub returns : goal.returns
returns c = sym (gap_above (gap _ _))
