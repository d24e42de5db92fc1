-- `judge_presence` names the header where the file is called for.
use mathlib.Core.Bool.{Bool}
use mathlib.Core.Path.{sym, ap, ◌∙◌}
use Rattle.word.specs.Kinds.{condition}
use Rattle.fault.specs.Fault.{least, top, faulty}
use Rattle.ids.specs.References.{kind_if}
use Rattle.feedset.proofs.stage.judge_presence.Goals as goal

pub returns-then-is_missing : goal.returns-then-is_missing
returns-then-is_missing c table =
    c.broken.ensures ∙ ap (λ (t : Bool). least (faulty top 0 (kind_if t condition))) (sym c.if-is_missing.true ∙ c.is_missing.ensures table)

pub returns : goal.returns
unfolding faulty least
returns c table = ap (λ (t : Bool). least (faulty top 0 (kind_if t condition))) (sym c.if-is_missing.false ∙ c.is_missing.ensures table)
