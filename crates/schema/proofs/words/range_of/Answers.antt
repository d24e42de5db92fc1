-- The code's two columns are the ranges of the words' bytes, by computation.
use mathlib.Core.Path.{refl, ◌∙◌}
use Rattle.schema.specs.Tables.{sheets, written}
use Rattle.schema.specs.inner.Line.{words_of, ranges_from, laid_out}
use Rattle.schema.proofs.Columns.{range_columns}
use Rattle.schema.proofs.words.range_of.Goals as goal

pub returns : goal.returns
unfolding laid_out written
returns c = c.of_columns.ensures ∙ range_columns (ranges_from 0 (words_of sheets)) c.args.k refl refl
