-- Numbers as digits, the most significant first, each digit with a base of its own. Bit fields, bytes and decimals are all digits
-- of this sort: a field of w bits is a digit of base 2 ^ w, a byte of base 256, a decimal of base 10.
use Rattle.std.specs.Prelude.{List, [], ◌∷◌, ℕ, ◌+◌, ◌*◌, ◌/◌, ◌%◌, ◌<◌}

-- how many numbers digits of these bases can spell
unfoldable pub weight : List ℕ → ℕ
weight [] = 1
weight (m ∷ ms) = m * weight ms

-- the number that a run of digits spells, after the number `acc` of the digits before it
unfoldable pub number_from : ℕ → List ℕ → List ℕ → ℕ
number_from acc [] vs = acc
number_from acc (m ∷ ms) [] = acc
number_from acc (m ∷ ms) (v ∷ vs) = number_from (acc * m + v) ms vs

unfoldable pub number : List ℕ → List ℕ → ℕ
number ms vs = number_from 0 ms vs

-- the digits of a number; what is too high for the bases is left out
unfoldable pub digits : List ℕ → ℕ → List ℕ
digits [] n = []
digits (m ∷ ms) n = n / weight ms % m ∷ digits ms n

-- digits that go with these bases: one for each, and less than it
abbrev pub Fit : List ℕ → List ℕ → Type 0
Fit [] [] = Unit {0}
Fit [] (v ∷ vs) = ⊥
Fit (m ∷ ms) [] = ⊥
Fit (m ∷ ms) (v ∷ vs) = (v < m) × Fit ms vs
