-- The part of the table's bytes at the name's range is that name.
use mathlib.Core.Path.{ap, ◌∙◌}
use Prim.Native.Nat.{◌+◌, ◌-◌}
use native.Mathlib.Omega.{arith}
use lib.ListN.{length, take, drop}
use Rattle.schema.specs.Tables.{sheets}
use Rattle.schema.proofs.Bytes.{named-fits, named-part}
use Rattle.schema.proofs.Computed.{table-length}
use Rattle.schema.proofs.names.name_by.Goals as goal

pub overflow_add-result : goal.overflow_add-result
overflow_add-result c =
    omega (arith, named-fits sheets c.args.number c.range_of-name.ensures, table-length)

pub slice_bounds-result-end : goal.slice_bounds-result-end
slice_bounds-result-end c =
    omega (arith, named-fits sheets c.args.number c.range_of-name.ensures, ap length c.requires)

pub returns : goal.returns
returns c =
    let first = c.range_of-name.result.first in let count = c.range_of-name.result.count in
    ap (λ b. take (first + count - first) (drop first b)) c.requires ∙ named-part sheets c.args.number c.range_of-name.ensures
