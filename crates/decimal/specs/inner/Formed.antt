-- The decimals that are read: within the digits of the form, and with no sign on 0. And what is known of a number that was read before: it is one.
use Rattle.std.specs.Prelude.{true, ◌≡◌, ◌<◌, Option, Result, Some, Ok}
use Rattle.decimal.specs.declared.Decimal.{Decimal}
use Rattle.decimal.specs.Exact.{unit, size}
use Rattle.decimal.specs.declared.PriceError.{PriceError}

pub record Formed (d : Decimal) : Type 0 where
  pub whole : d.whole < 1_000_000_000_000
  pub part : d.part < unit
  pub sign : d.negative ≡ true → 0 < size d

abbrev pub IsNumber : Option Decimal → Type 0
IsNumber n = (d : Decimal) × (n ≡ Some d)

abbrev pub IsPrice : Result Decimal PriceError → Type 0
IsPrice n = (d : Decimal) × (n ≡ Ok d)
