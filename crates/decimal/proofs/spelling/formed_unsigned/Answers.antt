-- The run over the first twelve bytes are all whole digits. Where something follows them it is a point, and digits to the end.
use mathlib.Core.Path.{ap, ◌∙◌}
use Prim.Native.Nat.{◌+◌}
use native.Mathlib.Omega.{arith}
use lib.ListN.{drop}
use Rattle.decimal.specs.inner.Spelling.{run_from}
use Rattle.decimal.proofs.Runs.{run_below, run_within}
use Rattle.decimal.proofs.Spelled.{whole-only, part-short, part-digits, part-from}
use Rattle.decimal.proofs.spelling.formed_unsigned.Goals as goal
use Rattle.std.specs.Prelude.{Some}

pub returns-then-s-at : goal.returns-then-s-at
returns-then-s-at c =
    ap Some c.decimal.ensures
    ∙ whole-only _ _ c.whole_run-run.result c.whole_run-run.ensures c.if-s-at.true

pub of-requires : goal.of-requires
of-requires c =
    rw (part-from c.args.s.now (c.whole_run-run.result.count + 1))
    (part-short _ _ c.whole_run-run.result c.whole_run-run.ensures c.if-s-at.false c.requires)

pub decimal-requires-2 : goal.decimal-requires-2
decimal-requires-2 c =
    let s = c.args.s.now in let n = c.whole_run-run.result.count + 1 in
    rw (c.of.ensures, part-from s n) (
      omega (arith, run_within (drop n s), part-short _ _ c.whole_run-run.result c.whole_run-run.ensures c.if-s-at.false c.requires),
      run_below (drop n s),
    )

pub returns : goal.returns
returns c =
    ap Some c.decimal-2.ensures
    ∙ part-digits _ _ c.whole_run-run.result c.whole_run-run.ensures c.if-s-at.false c.requires c.of.result
    (c.of.ensures ∙ ap (run_from 0 0) (part-from c.args.s.now (c.whole_run-run.result.count + 1)))
