-- The text's reading as a price tells; what is read is in the form, so its bounds can be tested.
use mathlib.Core.Path.{sym, ap, ◌∙◌}
use Rattle.std.specs.Prelude.{Err}
use Rattle.text.specs.Text.{text_of}
use Rattle.decimal.proofs.Formed.{price-formed}
use Rattle.scalar.specs.inner.Bounds.{in_bounds}
use Rattle.scalar.proofs.Ranges.{pricing-value, pricing-unformed, pricing-none}
use Rattle.scalar.proofs.texts.price_kind.Goals as goal

pub keeps-requires : goal.keeps-requires
keeps-requires c =
    price-formed (text_of c.args.spelled.now) _ (sym c.read_price.ensures ∙ c.in-Ok.is)

pub returns-in-Ok : goal.returns-in-Ok
unfolding in_bounds
returns-in-Ok c =
    pricing-value _ _ c.range_kind.ensures (sym c.read_price.ensures ∙ c.in-Ok.is) c.keeps.ensures

pub returns-in-Err-Unformed : goal.returns-in-Err-Unformed
returns-in-Err-Unformed c = pricing-unformed (sym c.read_price.ensures ∙ c.in-Err-Unformed.is ∙ ap Err c.in-Err-Unformed.field-0-is)

pub returns-in-Err-NoNumber : goal.returns-in-Err-NoNumber
returns-in-Err-NoNumber c = pricing-none (sym c.read_price.ensures ∙ c.in-Err-NoNumber.is ∙ ap Err c.in-Err-NoNumber.field-0-is)
