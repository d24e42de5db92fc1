-- The price that stands under its name, which is clear in a clear plan.
use mathlib.Core.Path.{sym, ap, subst, ◌∙◌}
use Rattle.schema.specs.Shape as shape
use Rattle.fare.specs.inner.Folds.{of_price}
use Rattle.quote.specs.inner.Values.{price_by}
use Rattle.quote.specs.inner.Clear.{ClearValue}
use Rattle.quote.proofs.Fields.{price-clear}
use Rattle.quote.proofs.trip.price_of.Goals as goal

pub price_in-requires : goal.price_in-requires
price_in-requires c =
    let k = c.requires in subst (ClearValue shape.price) (sym (c.member.ensures _ k.whole)) (price-clear k)

pub returns : goal.returns
returns c =
    c.of_price.ensures ∙ ap of_price (c.price_in.ensures ∙ ap price_by (c.member.ensures _ c.requires.whole))
