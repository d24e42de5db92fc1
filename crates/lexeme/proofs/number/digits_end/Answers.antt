-- `digits_end` ends where the digits do: the loop's invariant is that past them the text is the same from each of them on.
use native.Mathlib.Omega.{arith}
use Rattle.lexeme.specs.Numbers.{digit}
use Rattle.lexeme.proofs.Spans.{run_next, run_stops, run_ends, digits-end}
use Rattle.lexeme.proofs.number.digits_end.Goals as goal

pub returns-then-not-is_digit : goal.returns-then-not-is_digit
returns-then-not-is_digit c = digits-end _ _ (run_stops digit _ c.loop-i.i c.loop-i.invariant (omega arith) c.is_digit.ensures c.if-not-is_digit.true)

pub loop-i-preserved : goal.loop-i-preserved
loop-i-preserved c = run_next digit _ c.loop-i.i c.loop-i.invariant (omega arith) c.is_digit.ensures c.if-not-is_digit.false

pub returns : goal.returns
returns c = digits-end _ _ (run_ends digit _ c.loop-i.i c.loop-i.invariant (omega arith))
