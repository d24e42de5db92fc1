-- A text of another length is not of the form.
use mathlib.Core.Path.{sym, ◌∙◌}
use borrow.Author.Tests.{ne_eqb}
use Rattle.calendar.proofs.Forms.{form-zip, form_lengths}
use Rattle.calendar.proofs.written.has_form.Goals as goal

pub returns-then-form-s : goal.returns-then-form-s
returns-then-form-s c = c.all_admitted.ensures ∙ form-zip _ _ c.if-form-s.true

pub returns-else-form-s : goal.returns-else-form-s
returns-else-form-s c = ne_eqb _ _ c.if-form-s.false ∙ sym (form_lengths _ _ c.if-form-s.false)
