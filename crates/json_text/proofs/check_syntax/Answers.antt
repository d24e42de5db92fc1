-- `check_syntax` tests the length and judges by where the text's reading ended.
use borrow.Author.Rules.{rules}
use mathlib.Core.Path.{sym, ◌∙◌}
use Rattle.notation.proofs.Tried.{handed_on}
use Rattle.json_text.specs.Text.{syntax_by}
use Rattle.json_text.proofs.Texts.{too_long_lem, judged}
use Rattle.json_text.proofs.check_syntax.Goals as goal

pub returns-then-file-gt-FILE_BYTES : goal.returns-then-file-gt-FILE_BYTES
unfolding syntax_by
returns-then-file-gt-FILE_BYTES c = too_long_lem c.args.file.now c.if-file-gt-FILE_BYTES.true

pub returns : goal.returns
unfolding syntax_by
returns c = judged c.args.file.now _ c.if-file-gt-FILE_BYTES.false (sym c.in_ok-read_text.was ∙ c.read_text.ensures)

pub returns-in_err-read_text : goal.returns-in_err-read_text
unfolding syntax_by
returns-in_err-read_text c =
    handed_on _ _ c.from_residual.ensures.1 ∙ judged c.args.file.now _ c.if-file-gt-FILE_BYTES.false (sym c.in_err-read_text.was ∙ c.read_text.ensures)

pub read_text-requires : goal.read_text-requires
unfolding syntax_by
read_text-requires c = search rules
