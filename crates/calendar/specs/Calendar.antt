-- Real dates by the Gregorian calendar, years 0000 to 9999: document 02, W1.
use Rattle.std.specs.Prelude.{Bool, List, [], ◌∷◌, ℕ, zero, suc, ◌+◌, ◌%◌, eqb, leb, get_or}
use Rattle.notation.specs.Choice.{◌⇒◌else◌, ◌and◌}

-- every fourth year, but of those that 100 divides every fourth alone; 0000 is one
unfoldable pub leap : ℕ → Bool
leap y = eqb (y % 100) 0 ⇒ eqb (y % 400) 0 else eqb (y % 4) 0

-- the days of the months by their numbers, in a year that is no leap year; there is no month 0
unfoldable pub months : List ℕ
months = 0 ∷ 31 ∷ 28 ∷ 31 ∷ 30 ∷ 31 ∷ 30 ∷ 31 ∷ 31 ∷ 30 ∷ 31 ∷ 30 ∷ 31 ∷ []

-- none where the number is no month's
unfoldable pub month_days : (y m : ℕ) → ℕ
month_days y m = eqb m 2 and leap y ⇒ 29 else get_or months m 0

unfoldable pub real_date : (y m d : ℕ) → Bool
real_date y m d = leb y 9_999 and leb 1 d and leb d (month_days y m)

abbrev pub year_days : ℕ → ℕ
year_days y = leap y ⇒ 366 else 365

-- the days from 0000-01-01 to the first day of a year
unfoldable pub days_before : ℕ → ℕ
days_before zero = 0
days_before (suc y) = days_before y + year_days y
