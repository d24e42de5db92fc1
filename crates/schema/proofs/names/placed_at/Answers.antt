-- The places stand behind the lines and the names' ranges.
use native.Mathlib.Omega.{arith}
use Rattle.schema.specs.Tables.{sheets}
use Rattle.schema.proofs.Bytes.{place_read}
use Rattle.schema.proofs.Computed.{line-count, name-count}
use Rattle.schema.proofs.names.placed_at.Goals as goal

pub returns : goal.returns
returns c = place_read sheets c.requires.0 _ c.args.place (omega (arith, line-count, name-count)) c.requires.1
