-- The bounds that the code tests a number against.
use Rattle.std.specs.Prelude.{Bool}
use Rattle.decimal.specs.declared.Decimal.{Decimal}
use Rattle.decimal.specs.Exact.{natural, portion, in_range}
use Rattle.scalar.specs.declared.numbers.Bounds.{Bounds}
use Rattle.scalar.specs.declared.numbers.Bounds.TheVariants as bounds
use Rattle.scalar.specs.Scalars.{any_money, price_money}

unfoldable pub in_bounds : Bounds → Decimal → Bool
in_bounds bounds.Natural d = natural d
in_bounds bounds.Portion d = portion d
in_bounds (bounds.Degrees k) d = in_range k d
in_bounds bounds.Money d = any_money d
in_bounds bounds.Price d = price_money d
