-- The byte that is read is the number of the line's name; past the last line both sides are 0.
use native.Mathlib.Omega.{arith}
use Rattle.schema.specs.Tables.{sheets}
use Rattle.schema.proofs.Bytes.{number_read, number_past}
use Rattle.schema.proofs.Computed.{line-count}
use Rattle.schema.proofs.names.number_at.Goals as goal

pub returns-then-i-ge-COUNT : goal.returns-then-i-ge-COUNT
returns-then-i-ge-COUNT c = number_past sheets c.args.i (omega (arith, line-count))

pub returns : goal.returns
returns c = number_read sheets c.requires c.args.i (omega (arith, c.if-i-ge-COUNT.false, line-count))
