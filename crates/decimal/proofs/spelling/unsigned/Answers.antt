-- The run over the first twelve bytes decides: the end follows it, or a point, or there is no such number.
use mathlib.Core.Path.{ap, ◌∙◌}
use Prim.Native.Nat.{◌+◌}
use Rattle.decimal.proofs.Spelled.{whole-only, no-point, point, part-from}
use Rattle.decimal.proofs.spelling.unsigned.Goals as goal
use Rattle.std.specs.Prelude.{Some}

pub returns-then-s-at : goal.returns-then-s-at
returns-then-s-at c =
    ap Some c.decimal.ensures
    ∙ whole-only _ _ c.whole_run-run.result c.whole_run-run.ensures c.if-s-at.true

pub returns-then-s-at-ne46 : goal.returns-then-s-at-ne46
returns-then-s-at-ne46 c =
    no-point _ _ c.whole_run-run.result c.whole_run-run.ensures c.if-s-at.false c.if-s-at-ne46.true

pub returns : goal.returns
returns c =
    let s = c.args.s.now in
    c.fraction.ensures
    ∙ rw (part-from s (c.whole_run-run.result.count + 1))
    (point _ _ c.whole_run-run.result c.whole_run-run.ensures
    c.if-s-at.false c.if-s-at-ne46.false)
