-- A point is what the search looks for.
use mathlib.Core.Path.{◌∙◌}
use Rattle.decimal.proofs.Spelled.{point_any}
use Rattle.decimal.proofs.spelling.has_point.Goals as goal

pub returns : goal.returns
returns c = c.contains.ensures.value ∙ point_any c.args.s.now
