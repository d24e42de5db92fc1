-- The bytes that were passed are the same in both texts; each turn takes one off both.
use mathlib.Core.Path.{◌≡◌, sym}
use Rattle.text.proofs.Decoding.{left_at, one_byte}
use Rattle.text.proofs.Fronts.{alike-none, alike_next}
use native.Mathlib.Omega.{arith}
use Rattle.text.proofs.ordering.shared_from.Goals as goal

pub loop-n-init : goal.loop-n-init
loop-n-init c =
    let q = c.args in
    (omega arith, alike-none (sym (left_at q.a.now q.at _ c.cursor_at-c.ensures)) (sym (left_at q.b.now q.at _ c.cursor_at-d.ensures)))

pub returns-in_default : goal.returns-in_default
returns-in_default c = (c.loop-n.invariant.0, c.loop-n.invariant.1.front)

pub returns-then-x-y : goal.returns-then-x-y
returns-then-x-y c =
    (c.loop-n.invariant.0, c.loop-n.invariant.1.front)

pub loop-n-preserved : goal.loop-n-preserved
loop-n-preserved c = (
  omega (arith, c.loop-n-test.true),
  alike_next c.loop-n.invariant.1 (one_byte _ _ _ _ c.next_byte.ensures c.in-Some.is)
      (one_byte _ _ _ _ c.next_byte-in-loop-n.ensures c.in-Some-next_byte.is) c.if-x-y.false,
)

pub returns : goal.returns
returns c = let e : c.loop-n.n ≡ c.args.most = omega arith in (omega arith, rw e at c.loop-n.invariant.1.front)
