use mathlib.Core.Path.{ap, ◌∙◌}
use Rattle.text.specs.Text.{text_of, same_word}
use Rattle.schema.proofs.words.word_is.Goals as goal

pub returns : goal.returns
returns c = c.word_is.ensures ∙ ap (same_word (text_of c.args.spelled.now)) c.word_at.ensures
