-- `pass_name` passes blanks, a string, blanks, a colon and blanks: without one of these there is no member.
use mathlib.Core.Path.{refl, sym, ◌∙◌}
use Prim.Native.Nat.{◌+◌, ◌<◌}
use native.Mathlib.Omega.{arith}
use lib.ListN.{length}
use Rattle.lexeme.proofs.NumberParts.{equal-inside}
use Rattle.lexeme.proofs.Spans.{skipped}
use Rattle.walk.proofs.Ends.{ended}
use Rattle.walk.proofs.Passing.{name-unmarked, name_uncoloned, name_passed}
use Rattle.walk.proofs.pass_name.Goals as goal

pub returns-then-first-ne34 : goal.returns-then-first-ne34
returns-then-first-ne34 c =
    let a = c.args in let p = a.p.now in let i = c.skip_blanks-quote.result in
    name-unmarked p a.at i (skipped p a.at i c.skip_blanks-quote.ensures) (λ z. c.if-first-ne34.true (c.first.ensures ∙ z))

pub returns-then-first-ne58 : goal.returns-then-first-ne58
returns-then-first-ne58 c =
    let a = c.args in let p = a.p.now in
    let i = c.skip_blanks-quote.result in let j = c.string_end-closed.result in let s = c.skip_blanks-colon.result in
    name_uncoloned p a.at i (skipped p a.at i c.skip_blanks-quote.ensures) j s (ended p (i + 1) j c.string_end-closed.ensures)
    (skipped p j s c.skip_blanks-colon.ensures) (λ z. c.if-first-ne58.true (c.first-2.ensures ∙ z))

pub overflow_sub-result : goal.overflow_sub-result
overflow_sub-result c =
    let p = c.args.p.now in
    let i = c.skip_blanks-quote.result in let j = c.string_end-closed.result in
    let here : i < length p = equal-inside 0x22 refl p i (sym c.first.ensures ∙ c.if-first-ne34.false) in
    omega (arith, (ended p (i + 1) j c.string_end-closed.ensures).from (omega arith))

pub returns : goal.returns
returns c =
    let a = c.args in let p = a.p.now in
    let i = c.skip_blanks-quote.result in let j = c.string_end-closed.result in let s = c.skip_blanks-colon.result in let v = c.skip_blanks.result in
    name_passed p a.at i (skipped p a.at i c.skip_blanks-quote.ensures) j s (ended p (i + 1) j c.string_end-closed.ensures)
    (skipped p j s c.skip_blanks-colon.ensures) v (skipped p (s + 1) v c.skip_blanks.ensures)
    (sym c.first.ensures ∙ c.if-first-ne34.false) (sym c.first-2.ensures ∙ c.if-first-ne58.false)
