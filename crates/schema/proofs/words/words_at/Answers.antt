-- The code's two columns are the ranges of the lines' words, by computation.
use mathlib.Core.Path.{refl, ◌∙◌}
use Rattle.schema.specs.Tables.{sheets, written}
use Rattle.schema.specs.inner.Line.{line_words, ranges_from, laid_out}
use Rattle.schema.proofs.Columns.{range_columns}
use Rattle.schema.proofs.words.words_at.Goals as goal

pub returns : goal.returns
unfolding laid_out written
returns c = c.of_columns.ensures ∙ range_columns (ranges_from 0 (line_words sheets)) c.args.i refl refl
