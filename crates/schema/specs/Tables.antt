-- The tables that files are judged by. A table has a number, counted from 0. The files of all tables, one table after another, are a table too, whose files are
-- called sheets: the code has the lines of all tables in one list, and a sheet's number tells both a table and a file of it.
use mathlib.Core.List.{List, [], ◌∷◌, flatten}
use Rattle.std.specs.Prelude.{ℕ, ◌+◌, ◌*◌, eqb, ltb, leb, length, get_or}
use Rattle.notation.specs.Choice.{◌⇒◌else◌}
use Rattle.schema.specs.Shape.{Shape, Table, file_shape}
use Rattle.schema.specs.Table23.{table23, written23}

-- in the order of their numbers
unfoldable pub tables : List Table
tables = table23 ∷ []

-- a table by its number; one that no table has stands for the first
unfoldable pub table_at : ℕ → Table
table_at table = get_or tables table table23

-- all sheets
unfoldable pub sheets : Table
sheets = flatten tables

-- the shape of a sheet, by its number, counted from 1
abbrev pub sheet_shape : ℕ → Shape
sheet_shape sheet = file_shape sheets sheet

-- how many files each table has
abbrev pub table_files : ℕ
table_files = 8

-- the sheet of a file in a table; 0, which none has, of a number that no file has
unfoldable pub sheet_of : (table file : ℕ) → ℕ
sheet_of table file =
    eqb file 0 ⇒ 0 else
    ltb table_files file ⇒ 0 else
    leb (length tables) table ⇒ file else table * table_files + file

-- opens everything by which tables and sheets are computed
unfoldable pub written : Unit {0}
unfolding tables table_at sheets flatten written23
written = tt
