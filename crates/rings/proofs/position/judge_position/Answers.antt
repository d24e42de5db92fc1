-- What is no array is of the wrong type; an array is judged by its items.
use mathlib.Core.Path.{sym, ◌∙◌}
use Rattle.rings.proofs.Positions.{finds_position-array, finds_position-other, broken-map}
use Rattle.rings.proofs.position.judge_position.Goals as goal

pub returns-then-not-is_array : goal.returns-then-not-is_array
returns-then-not-is_array c = (
  broken-map _ _ c.broken-then-not-is_array.ensures,
  λ x w. finds_position-other w _ _ _ _ (sym c.is_array.ensures ∙ c.if-not-is_array.true) c.broken.ensures c.broken-then-not-is_array.ensures,
)

pub returns : goal.returns
returns c = (
  c.judge_numbers.ensures.0,
  λ x w. finds_position-array w _ _ _ (sym c.is_array.ensures ∙ c.if-not-is_array.false) c.judge_numbers.ensures.1,
)
