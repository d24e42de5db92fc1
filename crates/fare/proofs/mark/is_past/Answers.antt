-- Each segment has ended where all have an end and the ride is at or past the greatest.
use mathlib.Core.Bool.{not}
use mathlib.Core.Path.{sym, ap, ◌∙◌}
use Rattle.fare.proofs.Past.{past-none, past-each}
use Rattle.fare.proofs.mark.is_past.Goals as goal

pub returns-then-not-is_empty : goal.returns-then-not-is_empty
returns-then-not-is_empty c = c.all_ended.ensures ∙ past-each _ _ (sym c.is_empty.ensures ∙ c.if-not-is_empty.true)

pub returns-else-not-is_empty : goal.returns-else-not-is_empty
returns-else-not-is_empty c = ap not c.if-not-is_empty.false ∙ past-none _ _ (sym c.is_empty.ensures ∙ c.if-not-is_empty.false)
