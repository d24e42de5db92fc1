-- The bytes of the code are those of the table, by computation.
use mathlib.Core.Path.{refl}
use Rattle.schema.specs.Tables.{written}
use Rattle.schema.specs.inner.Names.{naming}
use Rattle.schema.specs.inner.Line.{laid_out}
use Rattle.schema.proofs.lines.table_bytes.Goals as goal

pub returns : goal.returns
unfolding laid_out naming written
returns c = refl
