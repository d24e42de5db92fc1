-- The tests of the code are those of the definition, in its order; the last sheet's number has room in a byte.
use mathlib.Core.Path.{sym}
use native.Mathlib.Omega.{arith}
use Rattle.schema.proofs.SheetShapes.{table-count, sheet_none, sheet_past, sheet_first, sheet_inside}
use Rattle.schema.proofs.sheets.sheet_of.Goals.{then-file-eq0-via-then-file-eq0, then-file-eq0-via-else-file-eq0+then-file-gt-FILES}
use Rattle.schema.proofs.sheets.sheet_of.Goals as goal

pub returns-then-file-eq0 : goal.returns-then-file-eq0
returns-then-file-eq0 c =
    elim c.then-file-eq0.branch [
      | then-file-eq0-via-then-file-eq0 w ↦ sym (sheet_none _ _ w.if-file-eq0.true)
      | then-file-eq0-via-else-file-eq0+then-file-gt-FILES w ↦ sym (sheet_past _ _ w.if-file-eq0.false w.if-file-gt-FILES.true)
    ]

pub returns-then-table-ge-TABLES : goal.returns-then-table-ge-TABLES
returns-then-table-ge-TABLES c =
    sym (sheet_first _ _ c.if-file-eq0.false (omega (arith, c.if-file-gt-FILES.false)) (omega (arith, c.if-table-ge-TABLES.true, table-count)))

pub returns : goal.returns
returns c =
    sym (sheet_inside _ _ c.if-file-eq0.false (omega (arith, c.if-file-gt-FILES.false)) (omega (arith, c.if-table-ge-TABLES.false, table-count)))
