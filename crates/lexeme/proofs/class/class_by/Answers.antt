-- The table that is lent has the class of every byte.
use Prim.Native.Nat.{◌<◌}
use native.Mathlib.Omega.{arith}
use Rattle.lexeme.proofs.class.class_by.Goals as goal

pub returns : goal.returns
returns c =
    let b = c.args.b in
    let h : b < 256 = omega arith in
    rw c.from.ensures (c.requires.at b h)
