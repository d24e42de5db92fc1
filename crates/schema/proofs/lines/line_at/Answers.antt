-- The bytes that are read at a line are those of the line; past the last line both sides are zeros.
use mathlib.Core.Path.{sym}
use native.Mathlib.Omega.{arith}
use lib.ListN.{get_or-eq_default}
use Rattle.schema.specs.Tables.{sheets}
use Rattle.schema.specs.inner.Line.{lines_of, no_line}
use Rattle.schema.proofs.Bytes.{line_read}
use Rattle.schema.proofs.Computed.{line-count}
use Rattle.schema.proofs.lines.line_at.Goals as goal

pub returns-then-i-ge-COUNT : goal.returns-then-i-ge-COUNT
returns-then-i-ge-COUNT c = sym (get_or-eq_default (lines_of sheets) no_line {n = c.args.i} (omega (arith, line-count)))

pub returns : goal.returns
returns c =
    line_read sheets c.requires c.args.i (omega (arith, c.if-i-ge-COUNT.false, line-count)) c.two_bytes.ensures
