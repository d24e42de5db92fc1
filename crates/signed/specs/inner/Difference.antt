-- A number that may be negative as the code holds it: what is added less what is taken off.
use Rattle.std.specs.Prelude.{Bool, false, ℕ, eqb, ℤ, pos, negsuc, ◌-ℤ◌}

-- a less b
unfoldable pub difference : ℕ → ℕ → ℤ
difference a b = pos a -ℤ pos b

abbrev pub is_zero : ℤ → Bool
is_zero (pos k) = eqb k 0
is_zero (negsuc k) = false
