-- The sum of the parts; each has room below the next.
use native.Mathlib.Omega.{arith}
use Rattle.text.proofs.codes.pack.Goals as goal

pub returns : goal.returns
returns c h =
    let f = c.ranges in
    record {
      is = omega arith;
      small = record {
        b0 = omega (arith, f.b0);
        b1 = omega (arith, f.b1);
        b2 = omega (arith, f.b2);
        b3 = omega (arith, f.b3);
        len = omega (arith, c.if-len-gt4.false);
      };
    }

pub returns-then-len-gt4 : goal.returns-then-len-gt4
returns-then-len-gt4 c h = absurd (omega arith)
