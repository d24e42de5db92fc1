-- Lists of different lengths differ. The loop's invariant: the bytes before the place are the same; once it is among the last eight these decide.
use mathlib.Core.Path.{sym}
use native.Mathlib.Omega.{arith}
use Rattle.text.proofs.Laws.{same-lengths}
use Rattle.text.proofs.Words.{differ_somewhere, same_whole, same-before}
use Rattle.text.proofs.compare.same_bytes.Goals as goal

pub returns-then-not-same_eight : goal.returns-then-not-same_eight
returns-then-not-same_eight c = differ_somewhere _ _ c.same_eight.ensures c.if-not-same_eight.true

pub loop-i-preserved : goal.loop-i-preserved
loop-i-preserved c =
    same-before _ _ c.loop-i.invariant c.same_eight.ensures c.if-not-same_eight.false

pub returns : goal.returns
returns c =
    let q = c.args in
    same_whole q.a.now q.b.now c.if-a-b.false (omega arith) (omega arith) c.loop-i.invariant c.same_eight-2.ensures

pub returns-then-a-b : goal.returns-then-a-b
returns-then-a-b c = sym (same-lengths _ _ c.if-a-b.true)

pub returns-then-a-lt8 : goal.returns-then-a-lt8
returns-then-a-lt8 c = c.same_few.ensures

pub loop-i-init : goal.loop-i-init
loop-i-init c k h = absurd (omega arith)

pub same_eight-requires : goal.same_eight-requires
same_eight-requires c = (omega arith, omega arith)

pub same_eight-requires-2 : goal.same_eight-requires-2
same_eight-requires-2 c = (omega arith, omega arith)
