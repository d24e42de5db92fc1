-- What is left of both texts is in order as it was at first; each turn takes a byte off both, and the first two that differ decide.
use mathlib.Core.Path.{sym, ap, ◌∙◌}
use lib.ListN.{length}
use Rattle.text.proofs.Decoding.{no_byte, one_byte}
use Rattle.text.proofs.Ordered.{order-ended, order-long, order_differ, order-next}
use Rattle.text.proofs.Seeing.{no-meant, one-meant}
use native.Mathlib.Omega.{arith}
use Rattle.text.proofs.ordering.order_left.Goals as goal

pub returns : goal.returns
returns c =
    c.order_at_end.ensures ∙ order-ended _ (no_byte _ _ c.next_byte.ensures c.in_default.is) ∙ c.loop-x.invariant

pub returns-in_default-next_meant : goal.returns-in_default-next_meant
returns-in_default-next_meant c =
    sym (order-long (one_byte _ _ _ _ c.next_byte.ensures c.in-Some.is) (no-meant _ _ _ c.next_meant.ensures c.in_default-next_meant.is))
    ∙ c.loop-x.invariant

pub returns-then-x-y : goal.returns-then-x-y
returns-then-x-y c =
    c.cmp.ensures
    ∙ order_differ (one_byte _ _ _ _ c.next_byte.ensures c.in-Some.is) (one-meant _ _ _ _ _ c.next_meant.ensures c.in-Some-next_meant.is) c.if-x-y.true
    ∙ c.loop-x.invariant

pub loop-x-smaller : goal.loop-x-smaller
loop-x-smaller c =
    omega (arith, ap length (one_byte _ _ _ _ c.next_byte.ensures c.in-Some.is))

pub loop-x-preserved : goal.loop-x-preserved
loop-x-preserved c =
    sym (order-next (one_byte _ _ _ _ c.next_byte.ensures c.in-Some.is)
    (one-meant _ _ _ _ _ c.next_meant.ensures c.in-Some-next_meant.is) c.if-x-y.false)
    ∙ c.loop-x.invariant
