-- What is no array is of the wrong type; an array is judged by its items.
use mathlib.Core.Path.{sym, ◌∙◌}
use native.Mathlib.Omega.{arith}
use Rattle.rings.proofs.Zones.{ring-array, ring-other}
use Rattle.rings.proofs.ring.judge_ring.Goals as goal

pub returns-then-not-is_array : goal.returns-then-not-is_array
returns-then-not-is_array c = (record { items = omega arith; positions = omega arith }, λ x w. ring-other w _ _ _ (sym c.is_array.ensures ∙ c.if-not-is_array.true) c.broken.ensures)

pub returns : goal.returns
returns c = (
  c.judge_positions.ensures.0,
  λ x w. ring-array w _ _ (sym c.is_array.ensures ∙ c.if-not-is_array.false) c.judge_positions.ensures.1,
)
