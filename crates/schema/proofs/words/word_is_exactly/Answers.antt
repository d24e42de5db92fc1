use mathlib.Core.Path.{ap, ◌∙◌}
use Rattle.text.specs.Text.{text_of, same}
use Rattle.schema.proofs.words.word_is_exactly.Goals as goal

pub returns : goal.returns
returns c = c.text_is.ensures ∙ ap (same (text_of c.args.spelled.now)) c.word_at.ensures
