-- `first_clear` counts the zeros below the lowest bit that is left, eight a byte; where none is left it has the count of them all.
use mathlib.Core.Path.{sym, ap, ◌∙◌}
use Prim.Native.Nat.{ℕ, ◌/◌}
use native.Mathlib.Omega.{arith}
use lib.Bits.{bit_and, bit_xor}
use lib.Count.{count_trailing_zeros, trailing_le, trailing_of_zero}
use Rattle.walk.proofs.mark.first_clear.Goals as goal

pub returns-then-found-eq0 : goal.returns-then-found-eq0
returns-then-found-eq0 c = sym (ap (λ (n : ℕ). count_trailing_zeros 64 n / 8) c.if-found-eq0.true ∙ ap (λ (n : ℕ). n / 8) (trailing_of_zero 64))

pub overflow_cast-result : goal.overflow_cast-result
overflow_cast-result c = omega (arith, trailing_le 64 (bit_xor (bit_and c.args.w 0x8080808080808080) 0x8080808080808080))
