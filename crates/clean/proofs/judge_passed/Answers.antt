-- `judge_passed` names stage B's first fault, and where there is none the first of kind 12; where there is none either, the records are noted.
use mathlib.Core.Path.{sym, ◌∙◌}
use Rattle.notation.proofs.Tried.{handed_on}
use Rattle.fault.proofs.Outcomes.{outcome_none, never_broken}
use Rattle.clean.proofs.judge_passed.Goals as goal

pub check_ids-requires : goal.check_ids-requires
check_ids-requires c =
    (c.requires.0, outcome_none c.args.file _ (sym c.check_fields.ensures ∙ c.in_ok-check_fields.was), c.requires.1)

pub returns-in_err-check_fields : goal.returns-in_err-check_fields
returns-in_err-check_fields c =
    let h = handed_on _ _ c.from_residual.ensures.1 in (rw (sym c.check_fields.ensures ∙ c.in_err-check_fields.was) h, λ e. never_broken (sym h ∙ e))

pub returns : goal.returns
returns c =
    (rw (sym c.check_fields.ensures ∙ c.in_ok-check_fields.was) c.check_ids.ensures.0, λ e. c.check_ids.ensures.1)
