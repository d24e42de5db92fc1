-- What an integer's spelling is worth, where one is given.
use Rattle.std.specs.Prelude.{List, ℕ, Option, Some, None}
use Rattle.decimal.specs.Decimals.{number_of}
use Rattle.decimal.specs.declared.Decimal.{Decimal}

-- the whole part of a number, zero where there is none; what a sound integer is worth
abbrev pub whole_of : Option Decimal → ℕ
whole_of (Some d) = d.whole
whole_of None = 0

abbrev pub integer_in : Option (List ℕ) → ℕ
integer_in None = 0
integer_in (Some s) = whole_of (number_of s)
