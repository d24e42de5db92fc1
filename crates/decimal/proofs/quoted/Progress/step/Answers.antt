-- A byte is a digit, a point, or the end of any number.
use mathlib.Core.Path.{sym, ◌∙◌}
use borrow.Author.Tests.{eq-eqb, ne_eqb}
use Rattle.decimal.proofs.Progress.{step-digit, step-point, step_other}
use Rattle.decimal.proofs.quoted.Progress.step.Goals as goal

pub digit-requires : goal.digit-requires
digit-requires c = (c.requires, sym c.is_digit.ensures ∙ c.if-is_digit.true)

pub returns-then-is_digit : goal.returns-then-is_digit
returns-then-is_digit c = c.digit.ensures ∙ step-digit _ _ (sym c.is_digit.ensures ∙ c.if-is_digit.true)

pub returns-then-b-eq46 : goal.returns-then-b-eq46
returns-then-b-eq46 c =
    c.point.ensures
    ∙ step-point _ _ (sym c.is_digit.ensures ∙ c.if-is_digit.false) (eq-eqb _ _ c.if-b-eq46.true)

pub returns-else-b-eq46 : goal.returns-else-b-eq46
returns-else-b-eq46 c =
    c.empty.ensures
    ∙ step_other _ _ (sym c.is_digit.ensures ∙ c.if-is_digit.false) (ne_eqb _ _ c.if-b-eq46.false)
