-- The number and the values are those of the reading, and the reading is the definition's.
use mathlib.Core.Path.{◌∙◌}
use Rattle.skaveldro.proofs.Told.{word-number}
use Rattle.skaveldro.specs.Answers.{word_answer}
use Rattle.skaveldro.proofs.skaveldro_read_word.Goals as goal

pub returns-clause-value : goal.returns-clause-value
unfolding word_answer
returns-clause-value c =
    rw (← c.read-reading.ensures, ← (c.number_of.ensures ∙ word-number c.read-reading.result), ← c.read_parts.ensures) c.give.ensures.value

pub returns-clause-answer_after : goal.returns-clause-answer_after
unfolding word_answer
returns-clause-answer_after c =
    rw (← c.read-reading.ensures, ← (c.number_of.ensures ∙ word-number c.read-reading.result), ← c.read_parts.ensures) c.give.ensures.buffer_after
