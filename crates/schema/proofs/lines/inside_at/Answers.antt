-- The byte that is read is that of the line.
use native.Mathlib.Omega.{arith}
use Rattle.schema.specs.Tables.{sheets}
use Rattle.schema.proofs.Bytes.{inside-read}
use Rattle.schema.proofs.Computed.{line-count}
use Rattle.schema.proofs.lines.inside_at.Goals as goal

pub returns : goal.returns
returns c = inside-read sheets c.requires.0 c.args.i c.requires.1

pub overflow_mul-result : goal.overflow_mul-result
overflow_mul-result c = omega (arith, line-count)

pub overflow_add-result : goal.overflow_add-result
overflow_add-result c = omega (arith, line-count)

pub bounds-table-i : goal.bounds-table-i
bounds-table-i c = omega (arith, line-count)
