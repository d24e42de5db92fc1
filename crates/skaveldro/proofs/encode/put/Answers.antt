-- A byte put is the next of the encoded numbers, and at the end all of them stand in front of the rest.
use native.Mathlib.Omega.{arith}
use mathlib.Core.Path.{◌∙◌}
use Rattle.skaveldro.proofs.Filling.{upto-start, upto_next, upto-end}
use Rattle.skaveldro.proofs.encode.put.Goals as goal

pub loop-i-init : goal.loop-i-init
loop-i-init c = (upto-start c.args.buffer.now c.args.values.now, omega arith)

pub loop-i-preserved : goal.loop-i-preserved
loop-i-preserved c =
    let l = c.loop-i in (
      rw (l.invariant.0, c.byte_of.ensures)
          (upto_next c.args.buffer.now c.args.values.now c.requires l.i (omega (arith, c.loop-i-test.true))),
      omega arith,
    )

pub returns : goal.returns
returns c =
    let l = c.loop-i in
    l.invariant.0 ∙ upto-end c.args.buffer.now c.args.values.now c.requires l.i l.invariant.1 (omega (arith, c.loop-i-test.false))
