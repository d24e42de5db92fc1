-- The first four bytes and the last four are all there are.
use mathlib.Core.Path.{◌∙◌}
use native.Mathlib.Omega.{arith}
use Rattle.text.proofs.Laws.{same-pairs}
use Rattle.text.proofs.Words.{differ_somewhere, same_whole, same-before}
use Rattle.text.proofs.compare.same_few.Goals as goal

pub returns-else-same_four : goal.returns-else-same_four
returns-else-same_four c = c.if-same_four.false ∙ differ_somewhere _ _ c.same_four.ensures c.if-same_four.false

pub returns-then-same_four : goal.returns-then-same_four
returns-then-same_four c =
    let a = c.args.a.now in let b = c.args.b.now in
    same_whole a b c.requires.0 (omega arith) (omega arith)
    (same-before a b (λ k h. absurd (omega arith)) c.same_four.ensures c.if-same_four.true) c.same_four-then-same_four.ensures

pub returns-then-a-lt4 : goal.returns-then-a-lt4
returns-then-a-lt4 c = c.eq.ensures ∙ same-pairs c.args.a.now c.args.b.now
