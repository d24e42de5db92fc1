-- `read_number` passes a minus sign and leaves the rest to `read_integer`.
use mathlib.Core.Path.{refl, sym, ◌∙◌}
use native.Mathlib.Omega.{arith}
use Rattle.lexeme.proofs.NumberParts.{equal-inside, number-minus, number-plain}
use Rattle.lexeme.proofs.number.read_number.Goals as goal

pub overflow_add-at : goal.overflow_add-at
overflow_add-at c = let a = c.args in
    omega (arith, equal-inside 0x2d refl a.s.now a.at (sym c.first.ensures ∙ c.if-first-eq45.true))

pub returns-then-first-eq45 : goal.returns-then-first-eq45
returns-then-first-eq45 c = let a = c.args in
    c.read_integer.ensures ∙ sym (number-minus a.s.now a.at (sym c.first.ensures ∙ c.if-first-eq45.true))

pub returns : goal.returns
returns c = let a = c.args in
    c.read_integer-2.ensures ∙ sym (number-plain a.s.now a.at (λ z. c.if-first-eq45.false (c.first.ensures ∙ z)))
