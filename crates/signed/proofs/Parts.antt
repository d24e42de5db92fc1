-- Every integer is its part above zero less its part below, and neither is larger than it: by its sign.
use Prim.Native.Nat.{ℕ, suc, ◌≤◌}
use native.Mathlib.Omega.{arith}
use lib.IntN.{ℤ, pos, negsuc, nat_abs}
use Rattle.signed.proofs.Gap.{Gap}

-- an integer's part above zero, and its part below
abbrev pub up : ℤ → ℕ
up (pos k) = k
up (negsuc k) = 0

abbrev pub down : ℤ → ℕ
down (pos k) = 0
down (negsuc k) = suc k

pub parts : (z : ℤ) → Gap z (up z) (down z)
parts (pos k) = record { apart = omega arith }
parts (negsuc k) = record { apart = omega arith }

pub up_size : (z : ℤ) → up z ≤ nat_abs z
up_size (pos n) = omega arith
up_size (negsuc n) = omega arith

pub down_size : (z : ℤ) → down z ≤ nat_abs z
down_size (pos n) = omega arith
down_size (negsuc n) = omega arith
