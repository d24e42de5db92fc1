-- `skip_value` goes by the first byte, as the definition does.
use mathlib.Core.Logic.{inl, inr}
use mathlib.Core.Path.{refl, ap, ◌∙◌}
use Prim.Native.Nat.{◌-◌}
use native.Mathlib.Omega.{arith}
use lib.Dec.{eqb}
use lib.ListN.{length}
use borrow.Author.Tests.{eqb-true, eqb-false}
use Rattle.notation.proofs.Booleans.{by_test}
use Rattle.lexeme.specs.Numbers.{either}
use Rattle.walk.proofs.Ends.{equal-begins, either-begins, value-string, value-brackets, value-minus, value-digit, value-four, value_five, value_none}
use Rattle.walk.proofs.Tests.{one-of, none-of, digit-between, digit-below, digit-above}
use Rattle.walk.proofs.skip.skip_value.Goals as goal
use Rattle.walk.proofs.skip.skip_value.Goals.{in_default-via-then-this-lt48, in_default-via-else-this-lt48+else-this-lt58}

pub overflow_add-at : goal.overflow_add-at
overflow_add-at c = let a = c.args in omega (arith, equal-begins a.s.now a.at _ c.first.ensures 0x22 refl c.in-34.is)

pub overflow_add-at-in-91 : goal.overflow_add-at-in-91
unfolding either
overflow_add-at-in-91 c =
    let a = c.args in omega (arith, either-begins a.s.now a.at _ c.first.ensures 0x5b 0x7b refl (one-of 0x5b 0x7b c.in-91.is))

pub returns-in-34 : goal.returns-in-34
returns-in-34 c =
    let a = c.args in
    c.string_end.ensures ∙ value-string a.s.now a.at _ c.first.ensures c.in-34.is

pub returns-in-91 : goal.returns-in-91
returns-in-91 c =
    let a = c.args in
    c.brackets_end.ensures ∙ value-brackets a.s.now a.at _ c.first.ensures (one-of 0x5b 0x7b c.in-91.is)

pub returns-in-45 : goal.returns-in-45
returns-in-45 c =
    let a = c.args in
    c.number_end.ensures
    ∙ by_test (eqb c.first.result 0x2d)
    (λ t. value-minus a.s.now a.at _ c.first.ensures (eqb-true _ _ t))
    (λ t. let n = eqb-false _ _ t in value-digit a.s.now a.at _ c.first.ensures (digit-between (grind arith) (grind arith)))

pub returns-in-116 : goal.returns-in-116
returns-in-116 c =
    let a = c.args in
    c.place.ensures ∙ ap (λ l. length a.s.now - length l) c.ahead.ensures
    ∙ value-four a.s.now a.at _ c.first.ensures (elim c.in-116.is [ inl e ↦ one-of 0x74 0x6e (inr e) | inr e ↦ one-of 0x74 0x6e (inl e) ])

pub returns-in-102 : goal.returns-in-102
returns-in-102 c =
    let a = c.args in
    c.place-in-102.ensures ∙ ap (λ l. length a.s.now - length l) c.ahead-in-102.ensures
    ∙ value_five a.s.now a.at _ c.first.ensures c.in-102.is

pub returns-in_default : goal.returns-in_default
returns-in_default c =
    let a = c.args in
    c.place-in_default.ensures
    ∙ elim c.in_default.branch [
      | in_default-via-then-this-lt48 w ↦
          value_none a.s.now a.at _ c.first.ensures (λ z. grind arith) (none-of 0x5b 0x7b (λ z. grind arith) (λ z. grind arith)) (λ z. grind arith)
          (digit-below (omega arith)) (none-of 0x74 0x6e (λ z. grind arith) (λ z. grind arith)) (λ z. grind arith)
      | in_default-via-else-this-lt48+else-this-lt58 w ↦
          value_none a.s.now a.at _ c.first.ensures (λ z. grind arith) (none-of 0x5b 0x7b (λ z. grind arith) (λ z. grind arith)) (λ z. grind arith)
          (digit-above (omega arith) (omega arith)) (none-of 0x74 0x6e (λ z. grind arith) (λ z. grind arith)) (λ z. grind arith)
    ]
