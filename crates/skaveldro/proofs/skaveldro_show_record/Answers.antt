-- The number and the values are those of the answer, and the answer is the definition's.
use mathlib.Core.Path.{◌≡◌, ◌∙◌}
use Rattle.schema.specs.Tables.{table_at}
use Rattle.schema.proofs.SheetShapes.{first-table}
use Rattle.clean.specs.Show.{answer, shown_of}
use Rattle.skaveldro.proofs.Told.{shown-number, shown-parts}
use Rattle.skaveldro.specs.Answers.{shown_answer}
use Rattle.skaveldro.proofs.skaveldro_show_record.Goals as goal

pub returns-clause-value : goal.returns-clause-value
unfolding shown_answer
returns-clause-value c =
    let a = c.args in
    let asked : answer c.show_record-shown.result ≡ shown_of (table_at 0) a.file a.«record» a.bytes.now = c.show_record-shown.ensures in
    rw (← first-table, ← asked, ← (c.number_of.ensures ∙ shown-number c.show_record-shown.result), ← (c.parts_of.ensures ∙ shown-parts c.show_record-shown.result), ← c.rest.ensures) c.give.ensures.value

pub returns-clause-answer_after : goal.returns-clause-answer_after
unfolding shown_answer
returns-clause-answer_after c =
    let a = c.args in
    let asked : answer c.show_record-shown.result ≡ shown_of (table_at 0) a.file a.«record» a.bytes.now = c.show_record-shown.ensures in
    rw (← first-table, ← asked, ← (c.number_of.ensures ∙ shown-number c.show_record-shown.result), ← (c.parts_of.ensures ∙ shown-parts c.show_record-shown.result), ← c.rest.ensures) c.give.ensures.buffer_after
