-- The rows of one object by number, from 0 on, and the number of the row that has a name.
use Rattle.std.specs.Prelude.{Bool, true, List, [], ◌∷◌, ◌≡◌, ℕ, zero, suc, ◌+◌, ◌≤◌, ◌<◌, min, leb, ltb, length}
use Rattle.notation.specs.Choice.{◌⇒◌else◌, ◌and◌}
use Rattle.text.specs.Text.{same}
use Rattle.schema.specs.Shape as shape
use Rattle.schema.specs.Shape.{Shape, Rows, Table}
use Rattle.schema.specs.inner.Line.{line_at, name_at}
use Rattle.schema.specs.Tables.{sheets}
use Rattle.slots.specs.declared.Row.{Row}

-- how many lines the 2.3 table has
abbrev pub line_count : ℕ
line_count = 109

-- so many rows have slots
abbrev pub most_rows : ℕ
most_rows = 16

-- their names
unfoldable pub names_in : Rows → List (List ℕ)
names_in shape.no_row = []
names_in (shape.row field need name σ rows) = name ∷ names_in rows

-- and as the lines from i up to `end` tell them, of so many rows at most
unfoldable pub names_at : Table → (end most i : ℕ) → List (List ℕ)
names_at t end zero i = []
names_at t end (suc most) i = ltb i end ⇒ name_at t i ∷ names_at t end most (i + 1 + (line_at t i).inside) else []

-- those of the 2.3 table, from `first` on; its last line ends them at the latest
abbrev pub line_names : (first count : ℕ) → List (List ℕ)
line_names first count = names_at sheets (min line_count (first + count)) most_rows first

-- the number of the first of these names that is x, counted from k on; `most_rows` where none is
unfoldable pub row_named : List ℕ → List (List ℕ) → ℕ → ℕ
row_named x [] k = most_rows
row_named x (name ∷ names) k = same x name ⇒ k else row_named x names (k + 1)

-- the line of the j-th row, of rows that begin at line i
unfoldable pub row_line : Table → (i j : ℕ) → ℕ
row_line t i zero = i
row_line t i (suc j) = row_line t i j + 1 + (line_at t (row_line t i j)).inside

-- r is the row that is named x, among those from `first` on
pub record RowOf (x : List ℕ) (first count : ℕ) (r : Row) : Type 0 where
  pub named : r.row ≡ row_named x (line_names first count) 0
  pub few : r.row ≤ most_rows
  pub line : r.row < most_rows → r.line ≡ row_line sheets first r.row

-- every object in a shape has a slot for each of its rows
unfoldable mutual
  pub few_in : Shape → Bool
  few_in shape.unlisted = true
  few_in (shape.scalar sort) = true
  few_in (shape.array numbering most σ) = few_in σ
  few_in (shape.object rows) = leb (length (names_in rows)) most_rows and few_below rows

  pub few_below : Rows → Bool
  few_below shape.no_row = true
  few_below (shape.row field need name σ rows) = few_in σ and few_below rows
