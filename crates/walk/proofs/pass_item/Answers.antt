-- `pass_item` passes blanks and skips a value: where nothing is skipped there is no item.
use native.Mathlib.Omega.{arith}
use Rattle.lexeme.proofs.Spans.{skipped}
use Rattle.walk.proofs.Passing.{item_unpassed, item_passed}
use Rattle.walk.proofs.pass_item.Goals as goal

pub returns-then-value_end-value : goal.returns-then-value_end-value
returns-then-value_end-value c =
    let a = c.args in let p = a.p.now in let i = c.skip_blanks-value.result in
    item_unpassed p a.at i (skipped p a.at i c.skip_blanks-value.ensures) _ c.skip_value-value_end.ensures c.if-value_end-value.true

pub returns : goal.returns
returns c =
    let a = c.args in let p = a.p.now in let i = c.skip_blanks-value.result in
    item_passed p a.at i (skipped p a.at i c.skip_blanks-value.ensures) _ c.skip_value-value_end.ensures (omega arith) _ c.next_place.ensures
