-- Each of the bounds has its test; a price has two.
use mathlib.Core.Bool.{Bool}
use mathlib.Core.Path.{◌≡◌, sym, ap, ◌∙◌}
use borrow.Author.Rules.{rules}
use Rattle.decimal.specs.declared.Decimal.{Decimal}
use Rattle.scalar.specs.declared.numbers.Bounds.{Bounds}
use Rattle.scalar.specs.inner.Bounds.{in_bounds}
use Rattle.scalar.proofs.Ranges.{price-below, price_money_lem}
use Rattle.scalar.proofs.numbers.keeps.Goals as goal

bounded : (d : Decimal) {b x : Bounds} {t : Bool} → b ≡ x → t ≡ in_bounds x d → t ≡ in_bounds b d
bounded d e h = h ∙ ap (λ (y : Bounds). in_bounds y d) (sym e)

pub returns-else-natural : goal.returns-else-natural
unfolding in_bounds
returns-else-natural c = bounded _ c.in-Price.is (c.if-natural.false ∙ price-below _ (sym c.natural-in-Price.ensures ∙ c.if-natural.false))

pub returns-then-natural : goal.returns-then-natural
unfolding in_bounds
returns-then-natural c =
    bounded _ c.in-Price.is
    (c.is_money-then-natural.ensures ∙ price_money_lem _ (sym c.natural-in-Price.ensures ∙ c.if-natural.true))

pub returns-in-Natural : goal.returns-in-Natural
unfolding in_bounds
returns-in-Natural c = bounded _ c.in-Natural.is c.natural.ensures

pub returns-in-Portion : goal.returns-in-Portion
unfolding in_bounds
returns-in-Portion c = bounded _ c.in-Portion.is c.portion.ensures

pub returns-in-Degrees : goal.returns-in-Degrees
unfolding in_bounds
returns-in-Degrees c = bounded _ c.in-Degrees.is c.within.ensures

pub returns-in-Money : goal.returns-in-Money
unfolding in_bounds
returns-in-Money c = bounded _ c.in-Money.is c.is_money.ensures

pub natural-requires : goal.natural-requires
unfolding in_bounds
natural-requires c = search rules

pub portion-requires : goal.portion-requires
unfolding in_bounds
portion-requires c = search rules

pub within-requires : goal.within-requires
unfolding in_bounds
within-requires c = search rules

pub is_money-requires : goal.is_money-requires
unfolding in_bounds
is_money-requires c = search rules

pub natural-requires-in-Price : goal.natural-requires-in-Price
unfolding in_bounds
natural-requires-in-Price c = search rules
