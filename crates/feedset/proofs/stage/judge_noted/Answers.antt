-- `judge_noted` goes from file to file. The loop's invariant: none before breaks a rule, so what is told first from here on is told first of all.
use mathlib.Core.Path.{◌∙◌}
use native.Mathlib.Omega.{arith}
use Rattle.notation.proofs.Tried.{handed_on}
use Rattle.cross.proofs.FromFile.{reached_start, reached_end, reached_here, reached_more}
use Rattle.feedset.proofs.stage.judge_noted.Goals as goal

pub find-found-requires : goal.find-found-requires
find-found-requires c = (c.loop-file.invariant.least, omega (arith, c.loop-file-test.true), c.requires)

pub judge_file-requires : goal.judge_file-requires
judge_file-requires c =
    (c.find-found.ensures, c.requires.narrow c.loop-file.file c.loop-file.invariant.least (omega (arith, c.loop-file-test.true)))

pub returns-in_err-judge_file : goal.returns-in_err-judge_file
returns-in_err-judge_file c =
    handed_on _ _ c.from_residual.ensures.1 ∙ reached_here c.loop-file.invariant (omega (arith, c.loop-file-test.true)) c.judge_file.ensures c.in_err-judge_file.was

pub loop-file-preserved : goal.loop-file-preserved
loop-file-preserved c =
    reached_more c.loop-file.invariant (omega (arith, c.loop-file-test.true)) c.judge_file.ensures c.in_ok-judge_file.was

pub loop-file-init : goal.loop-file-init
loop-file-init c = reached_start _

pub returns : goal.returns
returns c = reached_end c.loop-file.invariant (omega (arith, c.loop-file-test.false))
