use mathlib.Core.Path.{◌≡◌}
use Prim.Native.Nat.{◌+◌, min}
use Rattle.text.specs.Text.{text_of}
use Rattle.schema.specs.Tables.{sheets}
use Rattle.slots.specs.inner.Rows.{line_count, row_line}
use Rattle.slots.proofs.Named.{row_from}
use Rattle.slots.proofs.row_of.Given as goal

abbrev pub invariant-loop-row : goal.invariant-loop-row
invariant-loop-row l =
    (l.end ≡ min line_count (l.first + l.count))
    × (row_from sheets (text_of l.spelled) l.end l.row l.i ≡ row_from sheets (text_of l.spelled) (min line_count (l.first + l.count)) 0 l.first)
    × (l.i ≡ row_line sheets l.first l.row)
