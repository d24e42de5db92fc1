-- A value's kind, its form and its range are asked in this order, and each refusal is the one kind that the definition has there. What is in the range is at
-- most twice its half, in any bytes.
use mathlib.Core.Path.{sym, ap, ◌∙◌}
use native.Mathlib.Omega.{arith}
use Rattle.word.specs.Kinds.{wrong_type, number_form, out_of_range}
use Rattle.decimal.proofs.Formed.{number-formed}
use Rattle.rings.specs.declared.CoordinateFound.{CoordinateFound}
use Rattle.rings.proofs.Numbers.{measured_broken, no_number, inside-upto, unformed-kinds, outside-kinds, measured_inside}
use Rattle.rings.proofs.position.read_coordinate.Goals as goal

pub returns-then-not-is_number : goal.returns-then-not-is_number
returns-then-not-is_number c = (
  let e = ap (λ (o : CoordinateFound). o.value) c.broken-then-not-is_number.ensures in omega arith,
  λ x w.
      measured_broken _ _ _ wrong_type _ _ _ (no_number _ w (sym c.is_number.ensures ∙ c.if-not-is_number.true)) c.broken.ensures c.broken-then-not-is_number.ensures,
)

pub returns-in_default : goal.returns-in_default
returns-in_default c = (
  let e = ap (λ (o : CoordinateFound). o.value) c.broken-in_default-2.ensures in omega arith,
  λ x w.
      measured_broken _ _ _ number_form _ _ _
      (unformed-kinds _ w (sym c.is_number.ensures ∙ c.if-not-is_number.false)
      (sym c.read_decimal.ensures ∙ c.in_default.is))
      c.broken-in_default.ensures c.broken-in_default-2.ensures,
)

pub within-requires : goal.within-requires
within-requires c = number-formed _ _ (sym c.read_decimal.ensures ∙ c.in-Some.is)

pub returns-then-not-within : goal.returns-then-not-within
returns-then-not-within c = (
  let e = ap (λ (o : CoordinateFound). o.value) c.broken-then-not-within-2.ensures in omega arith,
  λ x w.
      measured_broken _ _ _ out_of_range _ _ _
      (outside-kinds _ w (sym c.is_number.ensures ∙ c.if-not-is_number.false) _
      (sym c.read_decimal.ensures ∙ c.in-Some.is) (sym c.within.ensures ∙ c.if-not-within.true))
      c.broken-then-not-within.ensures c.broken-then-not-within-2.ensures,
)

pub coordinate-requires : goal.coordinate-requires
coordinate-requires c =
    (number-formed _ _ (sym c.read_decimal.ensures ∙ c.in-Some.is), sym c.within.ensures ∙ c.if-not-within.false, c.requires)

pub returns : goal.returns
returns c = (
  inside-upto _ _ _ (sym c.within.ensures ∙ c.if-not-within.false) c.coordinate.ensures,
  λ x w.
      measured_inside _ w (sym c.is_number.ensures ∙ c.if-not-is_number.false) _
      (sym c.read_decimal.ensures ∙ c.in-Some.is) _ _ _ (sym c.within.ensures ∙ c.if-not-within.false) c.coordinate.ensures,
)
