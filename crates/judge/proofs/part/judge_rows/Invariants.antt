use mathlib.Core.Path.{◌≡◌}
use Rattle.schema.specs.Tables.{sheets}
use Rattle.slots.specs.inner.Rows.{row_line}
use Rattle.judge.proofs.Going.{RowsGo}
use Rattle.judge.proofs.part.judge_rows.Given as goal

abbrev pub invariant-loop-row : goal.invariant-loop-row
invariant-loop-row l =
    (l.i ≡ row_line sheets l.first l.row) × RowsGo l.slots l.leasts l.first l.count l.place l.i l.row l.least
