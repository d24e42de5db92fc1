-- The form of listed numbers: document 01, "Numbers". It bounds the digits on either side of the point and admits no exponent.
use Rattle.std.specs.Prelude.{Bool, true, false, not, List, [], ◌∷◌, map, ℕ, ◌+◌, ◌-◌, ◌*◌, ◌^◌, eqb, leb, length, Option, Result, Some, None, Ok, Err}
use Rattle.notation.specs.Choice.{◌⇒◌else◌, ◌and◌}
use Rattle.radix.specs.Radix.{number}
use Rattle.lexeme.specs.Read.{Read}
use Rattle.lexeme.specs.Read.Read.{done, bad}
use Rattle.lexeme.specs.Numbers.{digits, both, integer, fraction}
use Rattle.decimal.specs.declared.Decimal.{Decimal}
use Rattle.decimal.specs.declared.PriceError.{PriceError}
use Rattle.decimal.specs.declared.PriceError.TheVariants.{Unformed, NoNumber}

-- the most digits before and after the point
abbrev pub whole_digits : ℕ
whole_digits = 12

abbrev pub part_digits : ℕ
part_digits = 18

-- the number that digits spell
abbrev pub tens : List ℕ → List ℕ
tens [] = []
tens (b ∷ r) = 10 ∷ tens r

unfoldable pub value_of : List ℕ → ℕ
value_of ds = number (tens ds) (map (λ b. b - 0x30) ds)

-- the number of a sign, digits before the point and digits after it; −0 is 0
unfoldable pub decimal_of : Bool → List ℕ → List ℕ → Decimal
decimal_of negative before behind =
    record {
      negative = negative and not (eqb (value_of before + value_of behind) 0);
      whole = value_of before;
      part = value_of behind * 10 ^ (part_digits - length behind);
    }

unfoldable pub formed : Bool → List ℕ → List ℕ → Option Decimal
formed negative before behind =
    leb (length before) whole_digits and leb (length behind) part_digits ⇒ Some (decimal_of negative before behind) else
    None

-- what follows the point, and what follows the digits before it: the end, or a point; anything else, as an exponent, is not of the form
unfoldable pub behind_point : Bool → List ℕ → Read (List ℕ) → Option Decimal
behind_point negative before (done behind []) = formed negative before behind
behind_point negative before (done behind (b ∷ r)) = None
behind_point negative before (bad k r) = None

unfoldable pub behind_whole : Bool → Read (List ℕ) → Option Decimal
behind_whole negative (done before []) = formed negative before []
behind_whole negative (done before (b ∷ r)) = eqb b 0x2e ⇒ behind_point negative before (digits r) else None
behind_whole negative (bad k r) = None

-- the number that a spelling stands for
unfoldable pub number_of : List ℕ → Option Decimal
number_of [] = None
number_of (b ∷ r) = eqb b 0x2d ⇒ behind_whole true (digits r) else behind_whole false (digits (b ∷ r))

-- the spelling has a point: no integer has one
unfoldable pub has_point : List ℕ → Bool
has_point [] = false
has_point (b ∷ r) = eqb b 0x2e ⇒ true else has_point r

-- a text that is a JSON number without sign and exponent, and nothing else
unfoldable pub unsigned : Read (List ℕ) → Bool
unsigned (done x []) = true
unsigned (done x (b ∷ r)) = false
unsigned (bad k r) = false

abbrev pub priced_as : Option Decimal → Result Decimal PriceError
priced_as (Some d) = Ok d
priced_as None = Err Unformed

-- the price that the text of a string stands for
unfoldable pub price_of : List ℕ → Result Decimal PriceError
price_of s = unsigned (both integer fraction s) ⇒ priced_as (number_of s) else Err NoNumber
