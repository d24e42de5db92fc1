-- What is left of both spellings is in order as the whole is; each turn passes a byte that both begin with and that stands for itself.
use mathlib.Core.Path.{◌≡◌, refl, sym, ◌∙◌}
use lib.ListN.{length}
use Rattle.text.proofs.Seeing.{plain-first, plain_second}
use Rattle.text.proofs.Ordered.{order-next}
use native.Mathlib.Omega.{arith}
use Rattle.text.proofs.ordering.shared_front.Goals as goal

pub loop-i-preserved : goal.loop-i-preserved
loop-i-preserved c =
    let q = c.args in let w = c.loop-i in let e = sym c.same_plain.ensures ∙ c.if-not-same_plain.false in
    λ raw. sym (order-next (plain-first q.a.now q.b.now w.i e) (plain_second q.a.now q.b.now w.i e raw) refl) ∙ w.invariant raw

pub loop-i-init : goal.loop-i-init
loop-i-init c = λ raw. refl

pub returns-then-not-same_plain : goal.returns-then-not-same_plain
returns-then-not-same_plain c = c.loop-i.invariant

pub returns : goal.returns
returns c = let e : c.loop-i.i ≡ length c.args.a.now = omega arith in rw e at c.loop-i.invariant
