-- A number's exact value, in parts of 10^-18, and what document 01's "Numbers" asks of it: ranges on the exact value,
-- coordinates rounded to millionths (document 02, W3), money in ten-thousandths.
use Rattle.std.specs.Prelude.{Bool, ℕ, ◌+◌, ◌*◌, ◌/◌, ◌%◌, eqb, ℤ, pos, neg_ℤ, Option, Some, None}
use Rattle.std.specs.Int.Signed.{le_z}
use Rattle.notation.specs.Choice.{◌⇒◌else◌, ◌and◌}
use Rattle.signed.specs.Signed.{signed}
use Rattle.decimal.specs.declared.Decimal.{Decimal}
use Rattle.decimal.specs.declared.Amount.{Amount}

-- 1, in parts
abbrev pub unit : ℕ
unit = 1_000_000_000_000_000_000

-- how many parts, without the sign
abbrev pub size : Decimal → ℕ
size d = d.whole * unit + d.part

-- the exact value
unfoldable pub exact : Decimal → ℤ
exact d = signed d.negative (size d)

-- at least 0; from 0 to 1; from -k to k
unfoldable pub natural : Decimal → Bool
natural d = le_z (pos 0) (exact d)

unfoldable pub portion : Decimal → Bool
portion d = le_z (pos 0) (exact d) and le_z (exact d) (pos unit)

unfoldable pub in_range : ℕ → Decimal → Bool
in_range k d = le_z (neg_ℤ (pos (k * unit))) (exact d) and le_z (exact d) (pos (k * unit))

-- a millionth, in parts
abbrev pub millionth : ℕ
millionth = 1_000_000_000_000

-- a size in millionths: the nearest, and halfway between two the greater
abbrev pub nearest : ℕ → ℕ
nearest parts = (parts + millionth / 2) / millionth

-- a coordinate in millionths: its size is rounded and its sign stays, so that a half goes away from zero
unfoldable pub millionths : Decimal → ℤ
millionths d = signed d.negative (nearest (size d))

-- money: at most a million either way, and a multiple of 0.0001; its amount
abbrev pub amount_of : Decimal → Amount
amount_of d = record { negative = d.negative; size = size d / 100_000_000_000_000 }

unfoldable pub money_of : Decimal → Option Amount
money_of d = in_range 1_000_000 d and eqb (size d % 100_000_000_000_000) 0 ⇒ Some (amount_of d) else None

-- an amount in ten-thousandths
unfoldable pub ten_thousandths : Amount → ℤ
ten_thousandths a = signed a.negative a.size
