-- `read_integer` reads a 0 alone or digits, and leaves the rest to `read_fraction`, whose end or fault is its own.
use mathlib.Core.Path.{refl, sym, ◌∙◌}
use native.Mathlib.Omega.{arith}
use lib.ListN.{drop}
use Rattle.lexeme.specs.Numbers.{some_digits, both, integer, fraction, exponent}
use Rattle.lexeme.proofs.Placed.{passes, lands}
use Rattle.lexeme.proofs.Steps.{both_fails}
use Rattle.lexeme.proofs.NumberParts.{equal-inside, some_leaves, both-second, integer-zero, integer-some}
use Rattle.notation.proofs.Tried.{handed_on}
use Rattle.lexeme.proofs.number.read_integer.Goals as goal

pub returns-in_err-next : goal.returns-in_err-next
returns-in_err-next c =
    let a = c.args in let s = a.s.now in let l = drop a.at s in
    let e = integer-some l (λ z. c.if-first-eq48.false (c.first.ensures ∙ z)) in
    handed_on _ _ c.from_residual-in_err-next.ensures.1 ∙ passes s _ (some_digits l) _ (sym c.in_err-next.was ∙ c.read_digits.ensures)
    (λ q h. both_fails integer (both fraction exponent) l (e ∙ h))

pub returns : goal.returns
returns c =
    let a = c.args in let s = a.s.now in let l = drop a.at s in
    let e = integer-some l (λ z. c.if-first-eq48.false (c.first.ensures ∙ z)) in
    let d = lands some_digits s a.at _ some_leaves (sym c.in_ok-next.was ∙ c.read_digits.ensures) in
    sym c.in_ok-read_fraction-2.was ∙ c.read_fraction-2.ensures ∙ sym (both-second integer (both fraction exponent) l _ _ (e ∙ d.reads) s)

pub returns-in_err-read_fraction-2 : goal.returns-in_err-read_fraction-2
returns-in_err-read_fraction-2 c =
    let a = c.args in let s = a.s.now in let l = drop a.at s in
    let e = integer-some l (λ z. c.if-first-eq48.false (c.first.ensures ∙ z)) in
    let d = lands some_digits s a.at _ some_leaves (sym c.in_ok-next.was ∙ c.read_digits.ensures) in
    handed_on _ _ c.from_residual-in_err-read_fraction-2.ensures.1
    ∙ sym c.in_err-read_fraction-2.was ∙ c.read_fraction-2.ensures ∙ sym (both-second integer (both fraction exponent) l _ _ (e ∙ d.reads) s)

pub overflow_add-at : goal.overflow_add-at
overflow_add-at c = let a = c.args in
    omega (arith, equal-inside 0x30 refl a.s.now a.at (sym c.first.ensures ∙ c.if-first-eq48.true))

pub returns-then-first-eq48 : goal.returns-then-first-eq48
returns-then-first-eq48 c = let a = c.args in
    sym c.in_ok-read_fraction.was ∙ c.read_fraction.ensures
    ∙ sym (integer-zero a.s.now a.at (sym c.first.ensures ∙ c.if-first-eq48.true) (both fraction exponent))

pub returns-in_err-read_fraction : goal.returns-in_err-read_fraction
returns-in_err-read_fraction c = let a = c.args in
    handed_on _ _ c.from_residual.ensures.1 ∙ sym c.in_err-read_fraction.was ∙ c.read_fraction.ensures
    ∙ sym (integer-zero a.s.now a.at (sym c.first.ensures ∙ c.if-first-eq48.true) (both fraction exponent))
