-- What is seen at the place decides where both texts end there or their first bytes differ; else the bytes are compared from there on.
use mathlib.Core.Path.{◌∙◌}
use Rattle.text.proofs.Seeing.{seen_order}
use mathlib.Core.Logic.{inl, inr}
use native.Mathlib.Omega.{arith}
use Rattle.text.proofs.ordering.order_at.Goals as goal

pub returns : goal.returns
returns c =
    let q = c.args in
    c.cmp.ensures
    ∙ seen_order q.raw q.a.now q.b.now q.at c.peek-x.ensures c.peek-y.ensures c.if-x-gt256.false c.if-y-gt256.false
    (λ e. elim c.if-x-gt0.either [ inl h ↦ omega arith | inr h ↦ absurd (h e) ])
