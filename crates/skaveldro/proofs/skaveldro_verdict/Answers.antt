-- The number is that of the answer, and the verdict's own function leaves the buffer as it is to be.
use mathlib.Core.Path.{◌∙◌}
use Rattle.schema.proofs.SheetShapes.{first-table}
use Rattle.skaveldro.proofs.skaveldro_verdict.Goals as goal

pub returns-clause-value : goal.returns-clause-value
returns-clause-value c = rw (← first-table) (c.number.ensures ∙ c.verdict.ensures.result_value)

pub returns-clause-buffer_after : goal.returns-clause-buffer_after
returns-clause-buffer_after c = rw (← first-table) c.verdict.ensures.buffer_after
