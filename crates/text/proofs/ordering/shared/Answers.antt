-- The bytes that were passed are the same in both texts and stand for themselves; from another byte on the texts are compared decoded.
use mathlib.Core.Path.{◌≡◌, refl, sym, ◌∙◌}
use mathlib.Core.Bool.{false}
use Rattle.text.proofs.Fronts.{alike-none, alike_next, alike-more}
use Rattle.text.proofs.Seeing.{plain-first, plain_second}
use native.Mathlib.Omega.{arith}
use Rattle.text.proofs.ordering.shared.Goals as goal

pub overflow_add-result : goal.overflow_add-result
overflow_add-result c = omega (arith, c.shared_from.ensures.0, c.loop-i.invariant.0)

pub returns-then-not-same_plain : goal.returns-then-not-same_plain
returns-then-not-same_plain c =
    (omega (arith, c.shared_from.ensures.0, c.loop-i.invariant.0), alike-more c.loop-i.invariant.1 c.shared_from.result c.shared_from.ensures.1)

pub loop-i-preserved : goal.loop-i-preserved
loop-i-preserved c =
    let q = c.args in let w = c.loop-i in let e = sym c.same_plain.ensures ∙ c.if-not-same_plain.false in
    (omega (arith, c.loop-i-test.true), alike_next w.invariant.1 (plain-first q.a.now q.b.now w.i e) (plain_second q.a.now q.b.now w.i e false) refl)

pub loop-i-init : goal.loop-i-init
loop-i-init c = (omega arith, alike-none refl refl)

pub returns : goal.returns
returns c = let e : c.loop-i.i ≡ c.args.most = omega arith in (omega arith, rw e at c.loop-i.invariant.1.front)
