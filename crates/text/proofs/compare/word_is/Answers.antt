-- The comparison with case folded.
use mathlib.Core.Path.{◌∙◌}
use Rattle.text.proofs.Steps.{agreeing-all}
use Rattle.text.proofs.compare.word_is.Goals as goal

pub returns : goal.returns
returns c = c.reads_as.ensures ∙ agreeing-all _ _
