-- Equal numbers have equal bytes.
use native.Mathlib.Omega.{arith}
use Rattle.text.proofs.Words.{told-four}
use Rattle.text.proofs.compare.same_four.Goals as goal

pub returns : goal.returns
returns c =
    let q = c.args in
    told-four q.a.now q.b.now (λ k. omega (arith, c.type_inv.a k)) (λ k. omega (arith, c.type_inv.b k)) q.at
    c.four_at.ensures.0 c.four_at-2.ensures.0
