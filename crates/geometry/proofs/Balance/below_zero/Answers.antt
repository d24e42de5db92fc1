-- The difference of two numbers is below zero where the first is less.
use mathlib.Core.Path.{sym}
use Rattle.signed.proofs.Gap.{gap, gap_below}
use Rattle.geometry.proofs.Balance.below_zero.Goals as goal

pub returns : goal.returns
returns c = sym (gap_below (gap _ _))
