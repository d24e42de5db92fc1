-- The bytes that are read tell where the name stands; a number that no name has has no range on either side.
use mathlib.Core.Path.{◌∙◌}
use native.Mathlib.Omega.{arith}
use Rattle.schema.specs.Tables.{sheets}
use Rattle.schema.proofs.Bytes.{range-read, range-past}
use Rattle.schema.proofs.Computed.{line-count, name-count}
use Rattle.schema.proofs.names.range_of.Goals as goal

pub returns-then-n-gt-NAMES : goal.returns-then-n-gt-NAMES
returns-then-n-gt-NAMES c = range-past sheets c.args.number (omega (arith, name-count))

pub returns : goal.returns
returns c =
    range-read sheets c.requires c.args.number (omega (arith, c.from-n.ensures, c.if-n-gt-NAMES.false, name-count)) _ (omega (arith, c.from-n.ensures, line-count))
    (c.from.ensures ∙ c.two_bytes.ensures) c.from-2.ensures
