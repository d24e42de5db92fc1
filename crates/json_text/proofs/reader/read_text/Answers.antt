-- `read_text` passes blanks, reads a value, passes blanks, and is at the end or at a fault.
use mathlib.Core.Path.{sym, ◌∙◌}
use lib.ListN.{drop}
use Rattle.lexeme.specs.Character.{paired}
use Rattle.lexeme.proofs.Placed.{ends_at, faults-at, passes, lands, takes_leaves}
use Rattle.lexeme.proofs.Reading.{Settled}
use Rattle.lexeme.proofs.Spans.{skipped}
use Rattle.notation.proofs.Tried.{handed_on}
use Rattle.json_text.specs.Text.{value}
use Rattle.json_text.proofs.StrongPrefixes.{value_takes}
use Rattle.json_text.proofs.Texts.{text-bad, text-more, text-ends}
use Rattle.json_text.proofs.reader.read_text.Goals as goal

pub returns-in_err-next : goal.returns-in_err-next
returns-in_err-next c =
    let a = c.args in let s = a.s.now in
    let d = a.levels in let i = c.skip_blanks_by.result in
    handed_on _ _ c.from_residual.ensures.1 ∙ passes s _ (value paired d (drop i s)) _ (sym c.in_err-next.was ∙ c.value_by.ensures)
    (text-bad s d i (skipped s 0 i c.skip_blanks_by.ensures) _)

pub returns-then-end-s : goal.returns-then-end-s
returns-then-end-s c =
    let a = c.args in let s = a.s.now in
    let d = a.levels in let i = c.skip_blanks_by.result in let j = c.in_ok-next.next in let e = c.skip_blanks_by-end.result in
    let v = lands (value paired d) s i j (takes_leaves Settled (value paired d) (value_takes paired d)) (sym c.in_ok-next.was ∙ c.value_by.ensures) in
    let w = skipped s j e c.skip_blanks_by-end.ensures in
    faults-at s e _ w.upto _ (text-more s d i (skipped s 0 i c.skip_blanks_by.ensures) j e _ v.reads w c.if-end-s.true)

pub returns : goal.returns
returns c =
    let a = c.args in let s = a.s.now in
    let d = a.levels in let i = c.skip_blanks_by.result in let j = c.in_ok-next.next in let e = c.skip_blanks_by-end.result in
    let v = lands (value paired d) s i j (takes_leaves Settled (value paired d) (value_takes paired d)) (sym c.in_ok-next.was ∙ c.value_by.ensures) in
    let w = skipped s j e c.skip_blanks_by-end.ensures in
    ends_at s e _ w.upto _ (text-ends s d i (skipped s 0 i c.skip_blanks_by.ensures) j e _ v.reads w c.if-end-s.false)
