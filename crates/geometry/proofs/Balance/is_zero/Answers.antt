-- The difference of two numbers is zero where they are equal.
use mathlib.Core.Path.{sym}
use Rattle.signed.proofs.Gap.{gap}
use Rattle.geometry.proofs.Tests.{gap_equal}
use Rattle.geometry.proofs.Balance.is_zero.Goals as goal

pub returns : goal.returns
returns c = sym (gap_equal (gap _ _))
