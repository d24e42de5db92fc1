-- `next_place` passes blanks, and a comma where one stands.
use mathlib.Core.Path.{sym, ◌∙◌}
use Rattle.lexeme.proofs.Spans.{skipped}
use Rattle.walk.proofs.Finding.{next-comma, next-other}
use Rattle.walk.proofs.next_place.Goals as goal

pub returns-then-first-eq44 : goal.returns-then-first-eq44
returns-then-first-eq44 c =
    let a = c.args in let i = c.skip_blanks-i.result in
    next-comma a.p.now a.at i (skipped a.p.now a.at i c.skip_blanks-i.ensures) (sym c.first.ensures ∙ c.if-first-eq44.true)

pub returns : goal.returns
returns c =
    let a = c.args in let i = c.skip_blanks-i.result in
    next-other a.p.now a.at i (skipped a.p.now a.at i c.skip_blanks-i.ensures) (λ z. c.if-first-eq44.false (c.first.ensures ∙ z))
