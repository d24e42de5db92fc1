-- What a table keeps so that the first fault of any file fits the word, as a test that is computed over it: numbered arrays have at most as many
-- items as the word can number, records stand in the header alone and items in records alone, and inner fields come after the array's.
use Rattle.std.specs.Prelude.{Bool, true, false, ℕ, leb}
use Rattle.notation.specs.Choice.{◌and◌}
use Rattle.schema.specs.Shape as shape
use Rattle.schema.specs.Shape.{Shape, Rows, Numbering}
use Rattle.judge.specs.Bounds.{fields, greatest}

-- what a value stands in
pub data Level : Type 0 where
  header : Level
  in_record : Level
  in_item : Level

-- an array at a level, its items judged at the next; positions take the place of an item's number
abbrev pub array_fits : Numbering → Level → ℕ → (Level → Bool) → Bool
array_fits shape.records header most inner = leb most greatest and inner in_record
array_fits shape.records in_record most inner = false
array_fits shape.records in_item most inner = false
array_fits shape.subs header most inner = false
array_fits shape.subs in_record most inner = leb most greatest and inner in_item
array_fits shape.subs in_item most inner = false
array_fits shape.outer level most inner = inner level
array_fits shape.positions header most inner = false
array_fits shape.positions in_record most inner = true
array_fits shape.positions in_item most inner = false

unfoldable mutual
  -- the shape of a field's value
  pub fits_word : Shape → Level → ℕ → Bool
  fits_word shape.unlisted level field = true
  fits_word (shape.scalar sort) level field = true
  fits_word (shape.array numbering most σ) level field = array_fits numbering level most (λ inner. fits_word σ inner field)
  fits_word (shape.object rows) level field = rows_fit rows level field

  -- the rows of an object that a field holds
  pub rows_fit : Rows → Level → ℕ → Bool
  rows_fit shape.no_row level field = true
  rows_fit (shape.row f need name σ rows) level field = leb field f and leb f fields and fits_word σ level f and rows_fit rows level field
