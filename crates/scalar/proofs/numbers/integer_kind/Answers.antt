-- The point decides first.
use mathlib.Core.Path.{sym, ◌∙◌}
use Rattle.scalar.specs.inner.Bounds.{in_bounds}
use Rattle.scalar.proofs.numbers.integer_kind.Goals as goal

pub returns-then-has_point : goal.returns-then-has_point
returns-then-has_point c = rw (sym c.has_point.ensures ∙ c.if-has_point.true)

pub returns-else-has_point : goal.returns-else-has_point
unfolding in_bounds
returns-else-has_point c = rw (sym c.has_point.ensures ∙ c.if-has_point.false) c.formed_kind.ensures
