-- `passed` ends where the value is skipped to.
use mathlib.Core.Path.{refl}
use Rattle.walk.proofs.Fronts.{skip-ends}
use Rattle.judge.proofs.part.passed.Goals as goal

pub returns : goal.returns
returns c = (skip-ends c.args.p.now _ c.skip_value-end.ensures, refl)
