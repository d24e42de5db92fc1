-- The tests are the definition's.
use native.Mathlib.Omega.{arith}
use borrow.Author.Tests.{le-leb, lt-leb}
use Rattle.std.proofs.lemmas.Bool.Decides.{nat_tests}
use Rattle.calendar.specs.Calendar.{real_date}
use Rattle.calendar.proofs.Date.is_real.Goals as goal

pub returns-then-self-le9999 : goal.returns-then-self-le9999
unfolding real_date
returns-then-self-le9999 c = rw (le-leb _ _ c.if-self-le9999.true, real_date) (grind (arith, nat_tests))

pub returns-else-self-le9999 : goal.returns-else-self-le9999
unfolding real_date
returns-else-self-le9999 c = rw (lt-leb _ _ c.if-self-le9999.false, real_date)
