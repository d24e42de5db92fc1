-- Where case is folded both bytes are made small first.
use Rattle.text.proofs.Steps.{folded, unfolded}
use Rattle.text.proofs.compare.alike.Goals as goal

pub returns-then-fold : goal.returns-then-fold
returns-then-fold c = folded _ _ c.if-fold.true c.lower.ensures c.lower-then-fold.ensures

pub returns-else-fold : goal.returns-else-fold
returns-else-fold c = unfolded _ _ c.if-fold.false
