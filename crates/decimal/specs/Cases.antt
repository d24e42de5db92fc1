-- Numbers at, below and above each limit of document 01's "Numbers", computed.
use Rattle.std.specs.Prelude.{Bool, true, false, List, [], ◌∷◌, refl, ℕ, ℤ, pos, neg_ℤ, Result, Some, None, Ok, Err, Option}
use Prim.Native.String.{String}
use Rattle.radix.specs.Radix.{number, number_from}
use Rattle.notation.specs.Ascii.{bytes}
use Rattle.notation.specs.Case.{Case, Answers}
use Rattle.lexeme.specs.Cases.{lexing}
use Rattle.text.specs.Text.{text_of}
use Rattle.decimal.specs.declared.Decimal.{Decimal}
use Rattle.decimal.specs.Decimals.{value_of, decimal_of, formed, behind_point, behind_whole, number_of, has_point, unsigned, price_of}
use Rattle.decimal.specs.Exact.{exact, natural, portion, in_range, millionths, money_of}
use Rattle.decimal.specs.declared.Amount.{Amount}
use Rattle.decimal.specs.declared.PriceError.{PriceError}
use Rattle.decimal.specs.declared.PriceError.TheVariants.{Unformed, NoNumber}

-- opens every definition of this layer
unfoldable pub deciding : Unit {0}
unfolding lexing number number_from value_of decimal_of formed behind_point behind_whole number_of has_point unsigned price_of exact natural portion in_range millionths money_of
deciding = tt

abbrev decimal : Bool → ℕ → ℕ → Decimal
decimal negative whole part = record { negative = negative; whole = whole; part = part }

-- the form: a sign, whole digits, a fraction
abbrev forms : List (Case String (Option Decimal))
forms =
    ("zero", "0", Some (decimal false 0 0)) ∷
    ("a sign and a fraction", "-1.25", Some (decimal true 1 250_000_000_000_000_000)) ∷
    ("twelve digits before the point", "123456789012", Some (decimal false 123_456_789_012 0)) ∷
    ("twelve with a fraction", "123456789012.5", Some (decimal false 123_456_789_012 500_000_000_000_000_000)) ∷
    ("thirteen", "1234567890123", None) ∷
    ("thirteen with a fraction", "1234567890123.5", None) ∷
    ("eighteen digits after the point", "0.123456789012345678", Some (decimal false 0 123_456_789_012_345_678)) ∷
    ("the last of eighteen", "0.000000000000000001", Some (decimal false 0 1)) ∷
    ("nineteen, all zeros", "1.0000000000000000000", None) ∷
    ("exponent", "1e1", None) ∷
    ("exponent of 0, in capitals", "1E0", None) ∷
    ("exponent behind a fraction", "1.5e0", None) ∷
    ("−0 is 0", "-0", Some (decimal false 0 0)) ∷
    ("−0 with a fraction", "-0.000", Some (decimal false 0 0)) ∷
    []

forms-answered : Answers (λ s. number_of (bytes s)) forms
unfolding deciding
forms-answered = refl

-- a spelling that has a point is no integer's
abbrev points : List (Case String Bool)
points =
    ("an integer", "1", false) ∷
    ("with a sign", "-12", false) ∷
    ("a point before a zero", "1.0", true) ∷
    ("a point before another digit", "0.5", true) ∷
    []

points-answered : Answers (λ s. has_point (bytes s)) points
unfolding deciding
points-answered = refl

-- what is asked of the number that a text spells; none where it spells none of the form
abbrev of : {A : Type 0} → (Decimal → A) → Option Decimal → Option A
of f (Some d) = Some (f d)
of f None = None

abbrev spelled : {A : Type 0} → (Decimal → A) → String → Option A
spelled f s = of f (number_of (bytes s))

-- ranges, on the exact value
abbrev inside : Option Bool
inside = Some true

abbrev outside : Option Bool
outside = Some false

abbrev latitudes : List (Case String (Option Bool))
latitudes =
    ("the greatest", "90", inside) ∷
    ("the greatest with a point", "90.0", inside) ∷
    ("the least", "-90", inside) ∷
    ("short of it by the last digit", "89.999999999999999999", inside) ∷
    ("past it, and rounded not", "90.00000001", outside) ∷
    ("past it by the last digit", "90.000000000000000001", outside) ∷
    ("below the least", "-90.00000001", outside) ∷
    ("far past it", "91", outside) ∷
    []

latitudes-answered : Answers (spelled (in_range 90)) latitudes
unfolding deciding
latitudes-answered = refl

abbrev longitudes : List (Case String (Option Bool))
longitudes =
    ("the greatest", "180", inside) ∷
    ("the least", "-180", inside) ∷
    ("below the least by the last digit", "-180.000000000000000001", outside) ∷
    ("past the greatest by the last digit", "180.000000000000000001", outside) ∷
    []

longitudes-answered : Answers (spelled (in_range 180)) longitudes
unfolding deciding
longitudes-answered = refl

abbrev naturals : List (Case String (Option Bool))
naturals =
    ("zero", "0", inside) ∷
    ("−0", "-0", inside) ∷
    ("above by the last digit", "0.000000000000000001", inside) ∷
    ("below by the last digit", "-0.000000000000000001", outside) ∷
    []

naturals-answered : Answers (spelled natural) naturals
unfolding deciding
naturals-answered = refl

abbrev portions : List (Case String (Option Bool))
portions =
    ("none", "0", inside) ∷
    ("−0", "-0.0", inside) ∷
    ("a half", "0.5", inside) ∷
    ("the whole", "1", inside) ∷
    ("more by the last digit", "1.000000000000000001", outside) ∷
    ("less than none by the last digit", "-0.000000000000000001", outside) ∷
    []

portions-answered : Answers (spelled portion) portions
unfolding deciding
portions-answered = refl

-- money: at most a million, in ten-thousandths; what is spelled after those must be zeros
abbrev amount : Bool → ℕ → Option (Option Amount)
amount negative size = Some (Some (record { negative = negative; size = size }))

abbrev moneys : List (Case String (Option (Option Amount)))
moneys =
    ("a million", "1000000", amount false 10_000_000_000) ∷
    ("a million below zero", "-1000000", amount true 10_000_000_000) ∷
    ("a ten-thousandth more", "1000000.0001", Some None) ∷
    ("more by the last digit", "1000000.000000000000000001", Some None) ∷
    ("a ten-thousandth", "0.0001", amount false 1) ∷
    ("half of one", "0.00005", Some None) ∷
    ("zeros behind", "0.25000", amount false 2_500) ∷
    ("a discount", "-0.5", amount true 5_000) ∷
    ("−0", "-0.0", amount false 0) ∷
    []

moneys-answered : Answers (spelled money_of) moneys
unfolding deciding
moneys-answered = refl

-- Millionths: six decimals stay, more are rounded, and halves go away from zero on either side of it. A number short of 180 may come to 180, and one past 90 to
-- 90, so the range is tested on the exact value.
abbrev coordinates : List (Case String (Option ℤ))
coordinates =
    ("six decimals", "12.345678", Some (pos 12_345_678)) ∷
    ("short of a half", "12.3456784", Some (pos 12_345_678)) ∷
    ("a half", "12.3456785", Some (pos 12_345_679)) ∷
    ("short of it by the last digit", "12.345678499999999999", Some (pos 12_345_678)) ∷
    ("half a millionth", "0.0000005", Some (pos 1)) ∷
    ("half a millionth below zero", "-0.0000005", Some (neg_ℤ (pos 1))) ∷
    ("less than that", "0.0000004", Some (pos 0)) ∷
    ("less than that below zero", "-0.0000004", Some (pos 0)) ∷
    ("one and a half below zero", "-0.0000015", Some (neg_ℤ (pos 2))) ∷
    ("up to 180", "179.9999995", Some (pos 180_000_000)) ∷
    ("down to −180", "-179.9999995", Some (neg_ℤ (pos 180_000_000))) ∷
    ("not up to 180", "179.9999994", Some (pos 179_999_999)) ∷
    ("back to 90", "90.00000001", Some (pos 90_000_000)) ∷
    []

coordinates-answered : Answers (spelled millionths) coordinates
unfolding deciding
coordinates-answered = refl

-- prices, as the text between quotation marks spells them
abbrev prices : List (Case String (Result Decimal PriceError))
prices =
    ("a fraction", "1.5", Ok (decimal false 1 500_000_000_000_000_000)) ∷
    ("an escape", "\\u0031.5", Ok (decimal false 1 500_000_000_000_000_000)) ∷
    ("zero", "0", Ok (decimal false 0 0)) ∷
    -- no JSON number without sign and exponent
    ("a leading zero", "01", Err NoNumber) ∷
    ("an exponent", "1e1", Err NoNumber) ∷
    ("a minus", "-0", Err NoNumber) ∷
    ("a plus", "+1", Err NoNumber) ∷
    ("nothing", "", Err NoNumber) ∷
    ("no digit after the point", "1.", Err NoNumber) ∷
    ("no digit before the point", ".5", Err NoNumber) ∷
    ("a blank in front", " 1", Err NoNumber) ∷
    ("a blank behind", "1 ", Err NoNumber) ∷
    ("two points", "1.5.5", Err NoNumber) ∷
    ("thirteen digits and an exponent", "1234567890123e1", Err NoNumber) ∷
    -- one that is not of the form
    ("thirteen digits", "1234567890123", Err Unformed) ∷
    ("nineteen decimals", "1.0000000000000000000", Err Unformed) ∷
    []

prices-answered : Answers (λ s. price_of (text_of (bytes s))) prices
unfolding deciding
prices-answered = refl
