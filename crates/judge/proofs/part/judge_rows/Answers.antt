-- `judge_rows` walks the rows' lines. The loop's invariant: the least so far, with the rows that are left, makes the least of all.
use mathlib.Core.Path.{◌≡◌, sym, ap, subst, ◌∙◌}
use Prim.Native.Nat.{◌+◌, ◌<◌}
use native.Mathlib.Omega.{arith}
use Rattle.schema.specs.inner.Line.{line_at}
use Rattle.schema.specs.declared.Line.{Line}
use Rattle.schema.specs.Tables.{sheets}
use Rattle.slots.proofs.Named.{row-line-first, row-line-next}
use Rattle.fault.specs.Fault.{lesser}
use Rattle.judge.proofs.Going.{RowsGo, rows_start, rows_next, rows_end, rows-full}
use Rattle.judge.proofs.part.judge_rows.Goals as goal

pub loop-row-init : goal.loop-row-init
loop-row-init c =
    let a = c.args in
    (sym (row-line-first sheets a.first), rows_start a.slots.now a.leasts.now a.first a.count a.place)

pub returns-then-first-count : goal.returns-then-first-count
returns-then-first-count c =
    let a = c.args in
    rows_end a.slots.now a.leasts.now a.first a.count a.place c.loop-row.i c.loop-row.row c.loop-row.least c.if-first-count.true c.loop-row.invariant.1

pub loop-row-preserved : goal.loop-row-preserved
loop-row-preserved c =
    let a = c.args in
    let i = c.loop-row.i in let row = c.loop-row.row in let line = c.line_at-line.result in
    let e : c.from.result ≡ line.inside = c.from.ensures in
    let next : i + 1 + line.inside ≡ i + (1 + c.from.result) = omega (arith, e) in
    let here : i < a.first + a.count = omega (arith, c.if-first-count.false) in (
      sym next ∙ ap (λ (m : Line). i + 1 + m.inside) c.line_at-line.ensures ∙ ap (λ j. j + 1 + (line_at sheets j).inside) c.loop-row.invariant.0
          ∙ sym (row-line-next sheets a.first row),
      rw (c.lesser-least.ensures)
          (subst (λ j. RowsGo a.slots.now a.leasts.now a.first a.count a.place j (row + 1) (lesser c.loop-row.least c.judge_row.result)) next
          (rows_next a.slots.now a.leasts.now a.first a.count a.place i row c.loop-row.least c.line_at-line.ensures here c.loop-row-test.true
          c.loop-row.invariant.0 (rw c.at.ensures at c.judge_row.ensures) c.loop-row.invariant.1)),
    )

pub returns : goal.returns
returns c =
    let a = c.args in
    rows-full a.slots.now a.leasts.now a.first a.count a.place c.loop-row.i c.loop-row.row c.loop-row.least c.loop-row-test.false c.loop-row.invariant.1
