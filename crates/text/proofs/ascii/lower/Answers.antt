-- A capital is at most 0x5a, so its small letter is a byte.
use mathlib.Core.Path.{sym, ◌∙◌}
use native.Mathlib.Omega.{arith}
use Rattle.text.proofs.Steps.{within-most, lower_capital, lower-other}
use Rattle.text.proofs.ascii.lower.Goals as goal

pub overflow_add-result : goal.overflow_add-result
overflow_add-result c = let b = c.args.b in omega (arith, within-most 0x41 0x5a b (sym c.is_capital.ensures ∙ c.if-is_capital.true))

pub returns-then-is_capital : goal.returns-then-is_capital
returns-then-is_capital c = lower_capital c.args.b (sym c.is_capital.ensures ∙ c.if-is_capital.true)

pub returns-else-is_capital : goal.returns-else-is_capital
returns-else-is_capital c = lower-other c.args.b (sym c.is_capital.ensures ∙ c.if-is_capital.false)
