-- `after_element` hands on a fault of the element, and then tests in the definition's order.
use borrow.Author.Rules.{rules}
use mathlib.Core.Path.{sym, ap, ◌∙◌}
use native.Mathlib.Omega.{arith}
use Rattle.notation.proofs.Tried.{handed_on}
use Rattle.lexeme.proofs.Spans.{skipped}
use Rattle.json_text.specs.inner.Turns.{turn}
use Rattle.json_text.proofs.Follow.{follow_end, follow_close, follow_comma, follow_wrong}
use Rattle.json_text.proofs.element.after_element.Goals as goal

pub returns-in_err-end : goal.returns-in_err-end
unfolding turn
returns-in_err-end c = let a = c.args in handed_on _ _ c.from_residual.ensures.1 ∙ ap (turn a.s.now a.close) (sym c.in_err-end.was)

pub returns-then-s-i : goal.returns-then-s-i
unfolding turn
returns-then-s-i c =
    let a = c.args in let s = a.s.now in
    let i = c.skip_blanks_by-i.result in let k = skipped s c.in_ok-end.end i c.skip_blanks_by-i.ensures in
    follow_end s a.close c.in_ok-end.end i k c.if-s-i.true ∙ ap (turn s a.close) (sym c.in_ok-end.was)

pub returns-then-b-close : goal.returns-then-b-close
unfolding turn
returns-then-b-close c =
    let a = c.args in let s = a.s.now in
    let i = c.skip_blanks_by-i.result in let k = skipped s c.in_ok-end.end i c.skip_blanks_by-i.ensures in
    follow_close s a.close c.in_ok-end.end i k (omega arith) c.if-b-close.true ∙ ap (turn s a.close) (sym c.in_ok-end.was)

pub returns-then-b-eq44 : goal.returns-then-b-eq44
unfolding turn
returns-then-b-eq44 c =
    let a = c.args in let s = a.s.now in
    let i = c.skip_blanks_by-i.result in let k = skipped s c.in_ok-end.end i c.skip_blanks_by-i.ensures in
    follow_comma s a.close c.in_ok-end.end i k (omega arith) c.if-b-close.false c.if-b-eq44.true _ (skipped s _ _ c.skip_blanks_by.ensures) ∙ ap (turn s a.close) (sym c.in_ok-end.was)

pub returns : goal.returns
unfolding turn
returns c =
    let a = c.args in let s = a.s.now in
    let i = c.skip_blanks_by-i.result in let k = skipped s c.in_ok-end.end i c.skip_blanks_by-i.ensures in
    follow_wrong s a.close c.in_ok-end.end i k (omega arith) c.if-b-close.false c.if-b-eq44.false ∙ ap (turn s a.close) (sym c.in_ok-end.was)

pub skip_blanks_by-i-requires : goal.skip_blanks_by-i-requires
unfolding turn
skip_blanks_by-i-requires c = search rules

pub skip_blanks_by-requires : goal.skip_blanks_by-requires
unfolding turn
skip_blanks_by-requires c = search rules
