-- A price in the form is the number of its digits.
use borrow.Author.Rules.{rules}
use mathlib.Core.Path.{◌≡◌, sym, ap, subst, ◌∙◌}
use Rattle.text.specs.Text.{text_of}
use Rattle.decimal.specs.declared.quoted.Progress.{Progress}
use Rattle.decimal.specs.inner.Priced.{start, finished, Held}
use Rattle.decimal.proofs.Priced.{priced}
use Rattle.decimal.proofs.Progress.{start-held, steps-held, price-digits}
use Rattle.decimal.proofs.quoted.formed_price.Statement.{statement}
use Rattle.decimal.proofs.quoted.formed_price.Tie as tie
use Rattle.std.specs.Prelude.{Ok}

-- what the text came to is a price
finishes : (c : tie.After-progress_of) → let p = c.progress_of.result in finished p p.phase ≡ Ok c.before.before.requires.0
finishes c = ap (λ (p : Progress). finished p p.phase) c.progress_of.ensures ∙ priced (text_of c.before.before.args.spelled.now) ∙ c.before.before.requires.1

value_requires : tie.Need-value-requires
value_requires c κs = (
  subst Held (sym c.progress_of.ensures) (steps-held (text_of c.before.before.args.spelled.now) start start-held),
  (price-digits c.progress_of.result _ (finishes c)).0,
)

returns : tie.Need-returns
returns c = let g = c.before in ap Ok (c.value.ensures ∙ (price-digits g.progress_of.result _ (finishes g)).1) ∙ sym g.before.before.requires.1

pub formed_price_spec : {M : Type 1} → statement M
formed_price_spec = tie.close (tie.spec (λ c κs. search rules) value_requires returns)
