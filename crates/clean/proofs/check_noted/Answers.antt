-- `check_noted` follows the definition: nothing there, stage A, and the rest, which leaves the records of a clean file noted.
use mathlib.Core.Path.{sym, ◌∙◌}
use native.Mathlib.Omega.{arith}
use Rattle.schema.specs.Tables.{sheet_shape}
use Rattle.notation.proofs.Tried.{handed_on}
use Rattle.fault.proofs.Outcomes.{never_broken}
use Rattle.clean.proofs.Judged.{clean-there, syntax_none}
use Rattle.std.proofs.lemmas.Grind.{common_steps}
use Rattle.clean.proofs.check_noted.Goals as goal

pub judge_passed-requires : goal.judge_passed-requires
judge_passed-requires c =
    (syntax_none c.args.file _ (sym c.check_text.ensures ∙ c.in_ok-check_text.was), c.requires)

pub returns-in_err-check_text : goal.returns-in_err-check_text
returns-in_err-check_text c =
    let a = c.args in let h = handed_on _ _ c.from_residual.ensures.1 in (
      h ∙ rw (← clean-there (sheet_shape a.sheet) a.file a.s.now (λ e. grind (arith, common_steps)), sym c.check_text.ensures ∙ c.in_err-check_text.was),
      λ e. never_broken (sym h ∙ e),
    )

pub returns : goal.returns
returns c =
    let a = c.args in
    let w = c.judge_passed.ensures in
    (rw (← clean-there (sheet_shape a.sheet) a.file a.s.now (λ e. grind (arith, common_steps)), sym c.check_text.ensures ∙ c.in_ok-check_text.was) w.0, w.1)
