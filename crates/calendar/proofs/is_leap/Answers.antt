-- The test of 100 comes first, as in the definition.
use native.Mathlib.Omega.{arith}
use Rattle.std.proofs.lemmas.Grind.{common_steps}
use Rattle.calendar.specs.Calendar.{leap}
use Rattle.calendar.proofs.is_leap.Goals as goal

pub returns-then-year-eq0 : goal.returns-then-year-eq0
unfolding leap
returns-then-year-eq0 c = grind (arith, common_steps)

pub returns-else-year-eq0 : goal.returns-else-year-eq0
unfolding leap
returns-else-year-eq0 c = grind (arith, common_steps)
