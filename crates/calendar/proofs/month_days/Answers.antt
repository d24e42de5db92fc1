-- February alone asks whether the year is a leap year. The array is the definition's list, and behind its end stands no month.
use native.Mathlib.Omega.{arith}
use Rattle.std.proofs.lemmas.Grind.{common_steps}
use Rattle.calendar.specs.Calendar.{months, month_days}
use Rattle.calendar.proofs.month_days.Goals as goal

pub returns-then-is_leap : goal.returns-then-is_leap
unfolding months month_days
returns-then-is_leap c = grind (arith, common_steps)

pub returns-else-month-eq2 : goal.returns-else-month-eq2
unfolding months month_days
returns-else-month-eq2 c = grind (arith, common_steps)
