-- `read_digits` tests the first byte and leaves the rest to `digits_end`.
use mathlib.Core.Path.{sym, ◌∙◌}
use native.Mathlib.Omega.{arith}
use lib.ListN.{drop}
use Rattle.lexeme.proofs.Placed.{faults}
use Rattle.lexeme.proofs.NumberParts.{digits-inside, digits-none, digits-first}
use Rattle.lexeme.proofs.number.read_digits.Goals as goal

pub returns-then-not-is_digit : goal.returns-then-not-is_digit
returns-then-not-is_digit c = let a = c.args in let s = a.s.now in
    faults s (drop a.at s) _ _ c.place.ensures _ (digits-none s a.at c.first.ensures c.is_digit.ensures c.if-not-is_digit.true)

pub overflow_add-at : goal.overflow_add-at
overflow_add-at c = let a = c.args in
    omega (arith, digits-inside a.s.now a.at c.first.ensures c.is_digit.ensures c.if-not-is_digit.false)

pub returns : goal.returns
returns c = let a = c.args in
    c.digits_end.ensures ∙ sym (digits-first a.s.now a.at c.first.ensures c.is_digit.ensures c.if-not-is_digit.false)
