-- The lines of a table at which the rows of a file's records stand: behind those of the members that lead to the records.
use Rattle.std.specs.Prelude.{List, [], ◌∷◌, ℕ, suc, ◌+◌, length, get_or, None, Some}
use Rattle.schema.specs.Shape as shape
use Rattle.schema.specs.Shape.{Shape, Rows, Table}
use Rattle.schema.specs.Records.{way_in, record_in}
use Rattle.schema.specs.declared.Range.{Range}
use Rattle.schema.specs.inner.Line.{inside, nowhere}

-- how many lines stand inside a shape before those of its records
unfoldable mutual
  pub lines_before : Shape → ℕ
  lines_before shape.unlisted = 0
  lines_before (shape.scalar sort) = 0
  lines_before (shape.array numbering most σ) = 0
  lines_before (shape.object rows) = lines_above rows

  pub lines_above : Rows → ℕ
  lines_above shape.no_row = 0
  lines_above (shape.row field need name σ rows) =
      elim (way_in σ) [ None ↦ suc (length (inside σ) + lines_above rows) | Some w ↦ suc (lines_before σ) ]

-- the lines of the records of each file, where the first file's begin at k; their count is 0 where a file has no records
unfoldable pub records_from : ℕ → Table → List Range
records_from k [] = []
records_from k (σ ∷ t) = record { first = k + lines_before σ; count = length (inside (record_in σ)) } ∷ records_from (k + length (inside σ)) t

-- and of no file before the first
unfoldable pub record_ranges : Table → List Range
record_ranges t = nowhere ∷ records_from 0 t

abbrev pub record_lines : Table → ℕ → Range
record_lines t file = get_or (record_ranges t) file nowhere

-- names all that they are computed with
unfoldable pub records_laid_out : Unit {0}
unfolding record_ranges records_from lines_before way_in record_in inside
records_laid_out = tt
