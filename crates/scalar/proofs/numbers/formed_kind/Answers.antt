-- What is read is in the form, so its bounds can be tested; what is not is of kind 8.
use mathlib.Core.Path.{sym, ◌∙◌}
use Rattle.decimal.proofs.Formed.{number-formed}
use Rattle.scalar.specs.inner.Bounds.{in_bounds}
use Rattle.scalar.proofs.Ranges.{formed-value, formed-unformed}
use Rattle.scalar.proofs.numbers.formed_kind.Goals as goal

pub keeps-requires : goal.keeps-requires
keeps-requires c =
    number-formed c.args.s.now _ (sym c.read_decimal.ensures ∙ c.in-Some.is)

pub returns-in-Some : goal.returns-in-Some
returns-in-Some c =
    formed-value _ _ c.range_kind.ensures (in_bounds c.args.bounds)
    (sym c.read_decimal.ensures ∙ c.in-Some.is) c.keeps.ensures

pub returns-in-None : goal.returns-in-None
returns-in-None c =
    formed-unformed (in_bounds c.args.bounds) (sym c.read_decimal.ensures ∙ c.in-None.is)
