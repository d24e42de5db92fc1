-- `judge_read` asks stage C where stage B finds nothing; then every file is through both stages before it.
use mathlib.Core.Path.{sym, ◌∙◌}
use Rattle.notation.proofs.Tried.{handed_on}
use Rattle.verdict.proofs.StagesPassed.{all-through}
use Rattle.verdict.proofs.stages.judge_read.Goals as goal

pub judge_set-requires : goal.judge_set-requires
judge_set-requires c = all-through _ _ c.requires (sym c.first_in.ensures ∙ c.in_ok-first_in.was)

pub returns-in_err-first_in : goal.returns-in_err-first_in
returns-in_err-first_in c = handed_on _ _ c.from_residual.ensures.1 ∙ rw (sym c.first_in.ensures ∙ c.in_err-first_in.was)

pub returns : goal.returns
returns c = rw (sym c.first_in.ensures ∙ c.in_ok-first_in.was) c.judge_set.ensures

pub first_in-requires : goal.first_in-requires
first_in-requires c e = c.requires
