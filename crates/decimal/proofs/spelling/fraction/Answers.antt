-- The run of digits behind the point must be all of the text, and no longer than a fraction may be.
use mathlib.Core.Path.{ap, ◌∙◌}
use native.Mathlib.Omega.{arith}
use Rattle.decimal.proofs.Runs.{run_below, run_within}
use Rattle.decimal.proofs.Spelled.{fraction-long, fraction_run_other, fraction_run_digits}
use Rattle.decimal.proofs.spelling.fraction.Goals as goal
use Rattle.std.specs.Prelude.{Some}

pub returns-then-run-s : goal.returns-then-run-s
returns-then-run-s c =
    fraction_run_other _ _ _ c.if-s-gt-PART_DIGITS.false c.of-run.result c.of-run.ensures c.if-run-s.true

pub decimal-requires : goal.decimal-requires
decimal-requires c =
    let s = c.args.s.now in
    rw c.of-run.ensures (omega (arith, run_within s, c.if-s-gt-PART_DIGITS.false), run_below s)

pub returns : goal.returns
returns c =
    ap Some c.decimal.ensures
    ∙ fraction_run_digits _ _ _ c.if-s-gt-PART_DIGITS.false c.of-run.result c.of-run.ensures c.if-run-s.false

pub returns-then-s-gt-PART_DIGITS : goal.returns-then-s-gt-PART_DIGITS
returns-then-s-gt-PART_DIGITS c = fraction-long _ _ _ c.if-s-gt-PART_DIGITS.true
