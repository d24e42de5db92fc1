-- The form's number and then the rule decide, as in the definition (`Judged`).
use mathlib.Core.Path.{sym, ◌∙◌}
use Rattle.radix.specs.Radix.{digits, weight}
use Rattle.word.specs.Form.{form1}
use Rattle.word.proofs.Judged.{other_form, word, broken}
use Rattle.word.proofs.Word.judge.Goals as goal

pub returns-then-field_of-ne-FORM : goal.returns-then-field_of-ne-FORM
unfolding digits weight
returns-then-field_of-ne-FORM c = other_form form1 _ (λ z. c.if-field_of-ne-FORM.true (c.field_of.ensures ∙ z))

pub returns-then-keeps : goal.returns-then-keeps
unfolding digits weight
returns-then-keeps c =
    word form1 _ (sym c.field_of.ensures ∙ c.if-field_of-ne-FORM.false) _ c.parts-p.ensures
    (sym c.keeps.ensures ∙ c.if-keeps.true)

pub returns-else-keeps : goal.returns-else-keeps
unfolding digits weight
returns-else-keeps c =
    broken form1 _ (sym c.field_of.ensures ∙ c.if-field_of-ne-FORM.false) _ c.parts-p.ensures
    (sym c.keeps.ensures ∙ c.if-keeps.false)
