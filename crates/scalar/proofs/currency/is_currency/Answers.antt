-- The bytes that were passed are capitals, and with those that are left they are all; a fourth byte or another letter ends it.
use mathlib.Core.Path.{sym, ap, ◌∙◌}
use native.Mathlib.Omega.{arith}
use lib.ListN.{length}
use Rattle.text.proofs.Decoding.{left_at, no_byte, one_byte}
use Rattle.scalar.specs.Scalars.{currency}
use Rattle.scalar.proofs.Capitals.{currency-start, currency-end, currency-past, currency-other, currency-next}
use Rattle.scalar.proofs.currency.is_currency.Goals as goal
use Rattle.scalar.proofs.currency.is_currency.Goals.{then-n-eq3-via-then-n-eq3, then-n-eq3-via-else-n-eq3+then-not-is_capital}

pub returns-then-n-eq3 : goal.returns-then-n-eq3
returns-then-n-eq3 c =
    let w = c.loop-b in
    let e = one_byte _ _ _ _ c.next_byte.ensures c.in-Some.is in
    elim c.then-n-eq3.branch [
      | then-n-eq3-via-then-n-eq3 v ↦ currency-past w.n e (omega (arith, v.if-n-eq3.true)) ∙ w.invariant.1
      | then-n-eq3-via-else-n-eq3+then-not-is_capital v ↦ currency-other w.n e (sym v.is_capital.ensures ∙ v.if-not-is_capital.true) ∙ w.invariant.1
    ]

pub loop-b-preserved : goal.loop-b-preserved
loop-b-preserved c =
    let w = c.loop-b in
    let e = one_byte _ _ _ _ c.next_byte.ensures c.in-Some.is in
    (omega arith, currency-next w.n e (sym c.is_capital.ensures ∙ c.if-not-is_capital.false) ∙ w.invariant.1)

pub loop-b-init : goal.loop-b-init
loop-b-init c = (omega arith, currency-start _ ∙ ap currency (left_at c.args.spelled.now 0 _ c.cursor_at-c.ensures))

pub returns : goal.returns
returns c = let w = c.loop-b in
    currency-end w.n (no_byte _ _ c.next_byte.ensures c.in_default.is) ∙ w.invariant.1

pub loop-b-smaller : goal.loop-b-smaller
loop-b-smaller c = let e = one_byte _ _ _ _ c.next_byte.ensures c.in-Some.is in
    omega (arith, ap length e)
