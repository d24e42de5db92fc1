-- Equal numbers have equal bytes.
use native.Mathlib.Omega.{arith}
use Rattle.text.proofs.Words.{told-eight}
use Rattle.text.proofs.compare.same_eight.Goals as goal

pub returns : goal.returns
returns c =
    let q = c.args in
    told-eight q.a.now q.b.now (λ k. omega (arith, c.type_inv.a k)) (λ k. omega (arith, c.type_inv.b k)) q.at
    c.eight_at.ensures c.eight_at-2.ensures
