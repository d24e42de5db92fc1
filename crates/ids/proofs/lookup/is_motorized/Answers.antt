-- Nothing else than a text names a human.
use mathlib.Core.Bool.{not}
use mathlib.Core.Path.{sym, ap, ◌∙◌}
use borrow.Author.Tests.{ne_eqb}
use Rattle.notation.specs.Ascii.{bytes}
use Rattle.text.specs.Text.{text_of, same_word}
use Rattle.document.proofs.ByKind.{text-none, text-some}
use Rattle.ids.specs.References.{not_human}
use Rattle.ids.proofs.lookup.is_motorized.Goals as goal

pub returns-then-code_of-ne-STRING : goal.returns-then-code_of-ne-STRING
returns-then-code_of-ne-STRING c =
    let a = c.args in
    ap not (ne_eqb _ _ c.if-code_of-ne-STRING.true) ∙ sym (ap not_human (text-none a.value.now _ c.code_of.ensures c.if-code_of-ne-STRING.true))

pub returns-else-code_of-ne-STRING : goal.returns-else-code_of-ne-STRING
returns-else-code_of-ne-STRING c =
    let a = c.args in
    ap not (c.word_is.ensures ∙ ap (λ q. same_word (text_of q) (bytes "human")) c.unquoted.ensures)
    ∙ sym (ap not_human (text-some a.value.now _ c.code_of.ensures c.if-code_of-ne-STRING.false))
