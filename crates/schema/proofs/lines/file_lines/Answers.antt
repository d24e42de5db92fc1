-- The code's two columns are the ranges of the files' lines, by computation.
use mathlib.Core.Path.{refl}
use Rattle.schema.specs.Tables.{sheets, written}
use Rattle.schema.specs.inner.Line.{file_ranges, laid_out}
use Rattle.schema.proofs.Columns.{range_columns}
use Rattle.schema.proofs.lines.file_lines.Goals as goal

pub returns : goal.returns
unfolding laid_out written
returns c =
    rw (c.of_columns.ensures, c.from.ensures) (range_columns (file_ranges sheets) c.args.sheet refl refl)
