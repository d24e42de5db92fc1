-- `read_exponent` follows the definition's tests: the letter, then perhaps a sign, then digits.
use mathlib.Core.Path.{sym, ◌∙◌}
use native.Mathlib.Omega.{arith}
use lib.ListN.{drop}
use Rattle.lexeme.proofs.Placed.{ends}
use Rattle.lexeme.proofs.NumberParts.{exponent-none, exponent-inside, sign-inside, exponent-signed, exponent-plain}
use Rattle.lexeme.proofs.number.read_exponent.Goals as goal

pub returns-then-not-is_either : goal.returns-then-not-is_either
returns-then-not-is_either c = let a = c.args in let s = a.s.now in
    ends s (drop a.at s) _ _ c.place.ensures _ (exponent-none s a.at c.first.ensures c.is_either.ensures c.if-not-is_either.true)

pub overflow_add-next : goal.overflow_add-next
overflow_add-next c = let a = c.args in
    omega (arith, exponent-inside a.s.now a.at c.first.ensures c.is_either.ensures c.if-not-is_either.false)

pub overflow_add-next-then-is_either : goal.overflow_add-next-then-is_either
overflow_add-next-then-is_either c = let a = c.args in
    omega (arith, sign-inside a.s.now a.at c.first.ensures c.is_either.ensures c.if-not-is_either.false c.first-2.ensures c.is_either-2.ensures c.if-is_either.true)

pub returns-then-is_either : goal.returns-then-is_either
returns-then-is_either c = let a = c.args in
    c.read_digits.ensures
    ∙ sym (exponent-signed a.s.now a.at c.first.ensures c.is_either.ensures c.if-not-is_either.false c.first-2.ensures c.is_either-2.ensures c.if-is_either.true)

pub returns : goal.returns
returns c = let a = c.args in
    c.read_digits-2.ensures
    ∙ sym (exponent-plain a.s.now a.at c.first.ensures c.is_either.ensures c.if-not-is_either.false c.first-2.ensures c.is_either-2.ensures c.if-is_either.false)
