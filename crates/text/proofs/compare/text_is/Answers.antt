-- The comparison of bytes as they are.
use mathlib.Core.Path.{◌∙◌}
use Rattle.text.proofs.Steps.{agreeing-none}
use Rattle.text.proofs.compare.text_is.Goals as goal

pub returns : goal.returns
returns c = c.reads_as.ensures ∙ agreeing-none _ _
