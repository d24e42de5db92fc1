-- The number and the values are those of the answer, and the answer is the definition's.
use mathlib.Core.Path.{◌∙◌}
use Rattle.schema.proofs.SheetShapes.{first-table}
use Rattle.skaveldro.proofs.Told.{quote-number, quote-parts}
use Rattle.skaveldro.specs.Answers.{quote_answer}
use Rattle.skaveldro.proofs.skaveldro_quote.Goals as goal

pub returns-clause-value : goal.returns-clause-value
unfolding quote_answer
returns-clause-value c =
    rw (← first-table, ← c.quote_trip-q.ensures, ← (c.number_of.ensures ∙ quote-number c.quote_trip-q.result), ← (c.parts_of.ensures ∙ quote-parts c.quote_trip-q.result), ← c.rest.ensures) c.give.ensures.value

pub returns-clause-answer_after : goal.returns-clause-answer_after
unfolding quote_answer
returns-clause-answer_after c =
    rw (← first-table, ← c.quote_trip-q.ensures, ← (c.number_of.ensures ∙ quote-number c.quote_trip-q.result), ← (c.parts_of.ensures ∙ quote-parts c.quote_trip-q.result), ← c.rest.ensures)
    c.give.ensures.buffer_after
