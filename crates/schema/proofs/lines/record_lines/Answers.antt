-- The code's two columns are the ranges of the records' lines, by computation.
use mathlib.Core.Path.{refl}
use Rattle.schema.specs.Tables.{sheets, written}
use Rattle.schema.specs.inner.RecordLines.{record_ranges, records_laid_out}
use Rattle.schema.proofs.Columns.{range_columns}
use Rattle.schema.proofs.lines.record_lines.Goals as goal

pub returns : goal.returns
unfolding records_laid_out written
returns c =
    rw (c.of_columns.ensures, c.from.ensures) (range_columns (record_ranges sheets) c.args.sheet refl refl)
