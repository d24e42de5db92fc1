-- `check_fields` tells the first fault of a file; that it fits a word follows from the ceilings.
use mathlib.Core.Path.{sym, ap, ◌∙◌}
use native.Mathlib.Omega.{arith}
use Rattle.fault.specs.Outcome.{outcome_of}
use Rattle.judge.proofs.Fits.{first_fits}
use Rattle.clean.proofs.check_fields.Goals as goal

pub outcome_of-requires : goal.outcome_of-requires
outcome_of-requires c f e =
    let t = first_fits _ _ f (sym c.first_fault.ensures ∙ e) in let r = t.rec in let u = t.sub in (omega arith, omega arith)

pub returns : goal.returns
returns c = c.outcome_of.ensures ∙ ap (outcome_of c.args.file) c.first_fault.ensures
