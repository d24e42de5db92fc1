-- The byte that is read is the number of the line's name.
use mathlib.Core.Path.{ap}
use native.Mathlib.Omega.{arith}
use lib.Dec.{eqb}
use Rattle.schema.specs.Tables.{sheets}
use Rattle.schema.proofs.Bytes.{number_read}
use Rattle.schema.proofs.Computed.{line-count}
use Rattle.schema.proofs.names.has_name.Goals as goal

pub returns : goal.returns
returns c = ap (λ n. eqb n c.args.number) (number_read sheets c.requires.0 c.args.i c.requires.1)

pub overflow_mul-result : goal.overflow_mul-result
overflow_mul-result c = omega (arith, line-count)

pub overflow_add-result : goal.overflow_add-result
overflow_add-result c = omega (arith, line-count)

pub bounds-table-i : goal.bounds-table-i
bounds-table-i c = omega (arith, line-count)
