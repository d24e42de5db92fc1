-- In a sound position nothing is found, so its point is the definition's.
use Rattle.rings.proofs.Points.{point-found}
use Rattle.rings.proofs.position.position_in.Goals as goal

pub returns : goal.returns
returns c = let j = c.judge_position.ensures in (j.0, λ x w e. point-found _ (j.1 x w) e)
