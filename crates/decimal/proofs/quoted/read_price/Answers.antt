-- How far the whole text is a number decides its price.
use mathlib.Core.Path.{sym, ap, subst, ◌∙◌}
use Rattle.text.specs.Text.{text_of}
use Rattle.decimal.specs.declared.quoted.Progress.{Progress}
use Rattle.decimal.specs.inner.Priced.{start, finished, Held}
use Rattle.decimal.proofs.Priced.{priced}
use Rattle.decimal.proofs.Progress.{start-held, steps-held}
use Rattle.decimal.proofs.quoted.read_price.Goals as goal

pub finish-requires : goal.finish-requires
finish-requires c = subst Held (sym c.progress_of.ensures) (steps-held (text_of c.args.spelled.now) start start-held)

pub returns : goal.returns
returns c =
    c.finish.ensures ∙ ap (λ (p : Progress). finished p p.phase) c.progress_of.ensures ∙ priced (text_of c.args.spelled.now)
