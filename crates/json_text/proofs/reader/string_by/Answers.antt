-- `string_by` tests the quote and passes plain bytes; the closing quote ends the string, and anything else is left to `read_string`.
use mathlib.Core.Path.{refl, sym, ap, ◌∙◌}
use native.Mathlib.Omega.{arith}
use lib.ListN.{drop}
use Rattle.lexeme.specs.Character.{paired}
use Rattle.lexeme.specs.Read.{placed}
use Rattle.lexeme.specs.Strings.{string}
use Rattle.lexeme.proofs.Placed.{faults}
use Rattle.lexeme.proofs.NumberParts.{equal-inside}
use Rattle.notation.proofs.Tried.{handed_on}
use Rattle.json_text.proofs.StringEnds.{at_mark}
use Rattle.json_text.proofs.Values.{expect-there, expect-absent}
use Rattle.json_text.proofs.reader.string_by.Goals as goal

pub returns-then-first-ne34 : goal.returns-then-first-ne34
returns-then-first-ne34 c = let a = c.args in let s = a.s.now in
    faults s (drop a.at s) _ _ c.place.ensures _ (expect-absent 0x22 (string paired 0) s a.at (λ z. c.if-first-ne34.true (c.first.ensures ∙ z)))

pub overflow_add-at : goal.overflow_add-at
overflow_add-at c = let a = c.args in
    omega (arith, equal-inside 0x22 refl a.s.now a.at (sym c.first.ensures ∙ c.if-first-ne34.false))

pub overflow_add-result : goal.overflow_add-result
overflow_add-result c = omega (arith, equal-inside 0x22 refl c.args.s.now c.plain_end-i.result (sym c.first-2.ensures ∙ c.if-first-eq34.true))

pub returns-then-first-eq34 : goal.returns-then-first-eq34
returns-then-first-eq34 c = at_mark paired c.args.s.now c.plain_end-i.result (equal-inside 0x22 refl c.args.s.now c.plain_end-i.result (sym c.first-2.ensures ∙ c.if-first-eq34.true)) (sym c.first-2.ensures ∙ c.if-first-eq34.true) ∙ c.plain_end-i.ensures ∙ ap (placed c.args.s.now) (sym (expect-there 0x22 (string paired 0) c.args.s.now c.args.at refl (sym c.first.ensures ∙ c.if-first-ne34.false)))

pub returns : goal.returns
returns c =
    sym c.in_ok-read_string.was ∙ c.read_string.ensures ∙ c.plain_end-i.ensures ∙ ap (placed c.args.s.now) (sym (expect-there 0x22 (string paired 0) c.args.s.now c.args.at refl (sym c.first.ensures ∙ c.if-first-ne34.false)))

pub returns-in_err-read_string : goal.returns-in_err-read_string
returns-in_err-read_string c =
    handed_on _ _ c.from_residual.ensures.1 ∙ sym c.in_err-read_string.was ∙ c.read_string.ensures ∙ c.plain_end-i.ensures ∙ ap (placed c.args.s.now) (sym (expect-there 0x22 (string paired 0) c.args.s.now c.args.at refl (sym c.first.ensures ∙ c.if-first-ne34.false)))
