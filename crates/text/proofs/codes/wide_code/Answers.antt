-- The bytes of the character are those that stand there.
use native.Mathlib.Omega.{arith}
use Rattle.text.proofs.Packed.{wide_coded}
use Rattle.text.proofs.codes.wide_code.Goals as goal

pub overflow_sub-n : goal.overflow_sub-n
overflow_sub-n c = omega (arith, c.in-Some.ensures.0)

pub returns : goal.returns
returns c h =
    wide_coded c.args.s.now c.args.at c.requires.0 c.in-Some.n c.requires.1 c.in-Some.ensures.1 c.byte_at.ensures
    c.tail_byte.ensures c.tail_byte-2.ensures (c.pack.ensures h)
