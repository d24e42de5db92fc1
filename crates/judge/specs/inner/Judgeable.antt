-- What a table keeps so that its lines tell all that a judge must know, as a test that is computed over it: every value is listed,
-- objects lie within so many others, list no name twice and have a slot for each row; items are no arrays, but for positions, and have no words.
use Rattle.std.specs.Prelude.{Bool, true, false, List, [], ◌∷◌, ℕ, zero, suc, leb, length}
use Rattle.notation.specs.Choice.{◌and◌}
use Rattle.schema.specs.Shape as shape
use Rattle.schema.specs.Shape.{Shape, Rows, Numbering}
use Rattle.schema.specs.inner.Line.{sort_words}
use Rattle.schema.specs.inner.Sound.{distinct_rows}
use Rattle.slots.specs.inner.Rows.{most_rows, names_in}

-- so many arrays one in another, and in them single values
unfoldable pub arrays : Shape → ℕ → Bool
arrays shape.unlisted zero = true
arrays shape.unlisted (suc n) = false
arrays (shape.scalar sort) zero = true
arrays (shape.scalar sort) (suc n) = false
arrays (shape.array numbering most σ) zero = false
arrays (shape.array numbering most σ) (suc n) = arrays σ n
arrays (shape.object rows) n = false

abbrev pub no_words : List (List ℕ) → Bool
no_words [] = true
no_words (w ∷ ws) = false

-- an item that its array's line tells all of
unfoldable pub plain : Shape → Bool
plain shape.unlisted = false
plain (shape.scalar sort) = no_words (sort_words sort)
plain (shape.array numbering most σ) = false
plain (shape.object rows) = true

abbrev pub judgeable_array : Numbering → (positions others : Bool) → Bool
judgeable_array shape.records positions others = others
judgeable_array shape.subs positions others = others
judgeable_array shape.outer positions others = others
judgeable_array shape.positions positions others = positions

-- with a level less
abbrev pub under : ℕ → (ℕ → Bool) → Bool
under zero test = false
under (suc level) test = test level

unfoldable mutual
  pub judgeable : Shape → ℕ → Bool
  judgeable shape.unlisted level = false
  judgeable (shape.scalar sort) level = true
  judgeable (shape.array numbering most σ) level = judgeable_array numbering (arrays σ 3) (plain σ and judgeable σ level)
  judgeable (shape.object rows) level =
      distinct_rows rows and leb (length (names_in rows)) most_rows and under level (λ l. judgeable_rows rows l)

  pub judgeable_rows : Rows → ℕ → Bool
  judgeable_rows shape.no_row level = true
  judgeable_rows (shape.row field need name σ rows) level = judgeable σ level and judgeable_rows rows level
