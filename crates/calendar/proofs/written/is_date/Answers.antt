-- The front is the text's first eleven bytes. Where they are of the form they are ten, so they are the whole text, and their date is the text's.
use mathlib.Core.Path.{sym, ap, ◌∙◌}
use lib.ListN.{take}
use Rattle.text.proofs.Decoding.{left_at}
use Rattle.text.proofs.Filling.{front-count}
use Rattle.calendar.specs.declared.Date.{Date}
use Rattle.calendar.specs.Calendar.{real_date}
use Rattle.calendar.proofs.Dates.{date-not, date-is}
use Rattle.calendar.proofs.written.is_date.Goals as goal

pub slice_bounds-s-end : goal.slice_bounds-s-end
slice_bounds-s-end c = front-count c.read_front-front.ensures

-- the first eleven bytes of the text are those of the front
pub returns-else-has_form : goal.returns-else-has_form
returns-else-has_form c =
    c.if-has_form.false
    ∙ date-not _ (c.read_front-front.ensures.bytes ∙ ap (take 11) (left_at c.args.spelled.now 0 _ c.cursor_at.ensures))
    (sym c.has_form.ensures ∙ c.if-has_form.false)

pub date_in-requires : goal.date_in-requires
date_in-requires c = sym c.has_form.ensures ∙ c.if-has_form.true

pub returns-then-has_form : goal.returns-then-has_form
returns-then-has_form c =
    c.is_real.ensures
    ∙ ap (λ (x : Date). real_date x.year x.month x.day) c.date_in.ensures
    ∙ date-is _ (c.read_front-front.ensures.bytes ∙ ap (take 11) (left_at c.args.spelled.now 0 _ c.cursor_at.ensures))
    (sym c.has_form.ensures ∙ c.if-has_form.true)
