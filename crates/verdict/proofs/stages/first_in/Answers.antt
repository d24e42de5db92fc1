-- `first_in` goes from file to file. The loop's invariant: what is told first from this file on is what is told first of all.
use mathlib.Core.List.{List}
use mathlib.Core.Path.{ap, ◌∙◌}
use Prim.Native.Nat.{ℕ}
use native.Mathlib.Omega.{arith}
use Rattle.schema.specs.Tables.{table_at}
use Rattle.notation.proofs.Tried.{handed_on}
use Rattle.cross.proofs.FromFile.{reached_start, reached_end, reached_here, reached_more}
use Rattle.verdict.specs.inner.Stages.{outcome_in, first_in}
use Rattle.verdict.proofs.StagesPassed.{all_read}
use Rattle.verdict.proofs.stages.first_in.Goals as goal

pub loop-file-init : goal.loop-file-init
loop-file-init c = reached_start _

pub file_in-requires : goal.file_in-requires
file_in-requires c = (c.loop-file.invariant.least, omega (arith, c.loop-file-test.true))

pub judge_alone-requires : goal.judge_alone-requires
judge_alone-requires c e =
    rw c.file_in.ensures (all_read _ _ (c.requires e) c.loop-file.file c.loop-file.invariant.least (omega (arith, c.loop-file-test.true)))

pub returns-in_err-judge_alone : goal.returns-in_err-judge_alone
unfolding first_in
returns-in_err-judge_alone c =
    let a = c.args in
    handed_on _ _ c.from_residual.ensures.1
    ∙ reached_here c.loop-file.invariant (omega (arith, c.loop-file-test.true))
    (c.judge_alone.ensures ∙ ap (λ (q : List ℕ). outcome_in (table_at a.table) a.stage c.loop-file.file q) c.file_in.ensures) c.in_err-judge_alone.was

pub loop-file-preserved : goal.loop-file-preserved
loop-file-preserved c =
    let a = c.args in
    reached_more c.loop-file.invariant (omega (arith, c.loop-file-test.true))
    (c.judge_alone.ensures ∙ ap (λ (q : List ℕ). outcome_in (table_at a.table) a.stage c.loop-file.file q) c.file_in.ensures) c.in_ok-judge_alone.was

pub returns : goal.returns
unfolding first_in
returns c = reached_end c.loop-file.invariant (omega (arith, c.loop-file-test.false))
