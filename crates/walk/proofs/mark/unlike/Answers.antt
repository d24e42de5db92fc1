-- `unlike` adds to a number below 2 ^ 63 one that is below it too.
use native.Mathlib.Omega.{arith}
use lib.Bits.{bit_and, and_le_r, xor_lt}
use Rattle.walk.proofs.mark.unlike.Goals as goal

pub overflow_add-result : goal.overflow_add-result
overflow_add-result c =
    let a = c.args in
    omega (arith, xor_lt 63 (bit_and a.w a.mask) a.value (omega (arith, and_le_r a.w a.mask)) (omega arith))
