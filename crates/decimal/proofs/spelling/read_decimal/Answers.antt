-- A sign goes first, and the rest is a number without one.
use mathlib.Core.Path.{sym, ◌∙◌}
use borrow.Author.Tests.{eq-eqb, eqb-true}
use Rattle.notation.proofs.Booleans.{true-false}
use Rattle.decimal.proofs.Spelled.{number-none, number-minus, number-plain, part-from}
use Rattle.decimal.proofs.spelling.read_decimal.Goals as goal

pub returns-then-s-eq45 : goal.returns-then-s-eq45
returns-then-s-eq45 c =
    let s = c.args.s.now in
    c.unsigned.ensures ∙ rw (part-from s 1) (number-minus s (λ e. true-false (c.is_empty.ensures ∙ eq-eqb _ 0 e) c.if-is_empty.false) c.if-s-eq45.true)

pub returns-else-s-eq45 : goal.returns-else-s-eq45
returns-else-s-eq45 c =
    c.unsigned-else-s-eq45.ensures ∙ number-plain _ (λ e. true-false (c.is_empty.ensures ∙ eq-eqb _ 0 e) c.if-is_empty.false) c.if-s-eq45.false

pub returns-then-is_empty : goal.returns-then-is_empty
returns-then-is_empty c = number-none _ (eqb-true _ 0 (sym c.is_empty.ensures ∙ c.if-is_empty.true))
