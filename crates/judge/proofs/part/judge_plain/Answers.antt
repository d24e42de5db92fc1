-- `judge_plain` judges the bytes that are skipped.
use Rattle.walk.proofs.Fronts.{skip-ends, ends-cut}
use Rattle.judge.proofs.Values.{single-scalar}
use Rattle.judge.proofs.part.judge_plain.Goals as goal

pub returns : goal.returns
returns c = (
  skip-ends c.args.p.now _ c.skip_value-end.ensures,
  λ level other. single-scalar c.judge_scalar-kind.result c.args.row.listed other c.broken.ensures c.judge_scalar-kind.ensures,
)

pub slice_bounds-judge_scalar-end : goal.slice_bounds-judge_scalar-end
slice_bounds-judge_scalar-end c = let p = c.args.p.now in ends-cut p c.skip_value-end.result (skip-ends p _ c.skip_value-end.ensures)
