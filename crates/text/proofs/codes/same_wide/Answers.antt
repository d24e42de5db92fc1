-- The character stands in the first, and the second has the same bytes.
use Rattle.text.proofs.Packed.{stands-inside, stands_shared}
use Rattle.text.proofs.codes.same_wide.Goals as goal

pub same_run-requires : goal.same_run-requires
same_run-requires c =
    let q = c.args in
    stands-inside q.a.now q.i c.if-a-i.false c.in-Some.n c.in-Some.ensures.0 c.in-Some.ensures.1

pub returns-then-same_run : goal.returns-then-same_run
returns-then-same_run c h =
    let q = c.args in
    stands_shared q.a.now q.i c.if-a-i.false c.in-Some.n c.in-Some.ensures.0 c.in-Some.ensures.1 q.b.now q.j
    (c.same_run.ensures c.if-same_run.true)
