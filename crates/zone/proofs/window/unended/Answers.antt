-- A number is compared with the moment; without one nothing is asked.
use Rattle.zone.proofs.Ways.{unended-none, unended-some}
use Rattle.zone.proofs.window.unended.Goals as goal

pub returns-then-code_of-ne-NUMBER : goal.returns-then-code_of-ne-NUMBER
returns-then-code_of-ne-NUMBER c = unended-none _ _ c.code_of.ensures c.args.moment c.if-code_of-ne-NUMBER.true

pub returns : goal.returns
returns c =
    rw c.integer_in.ensures
    (unended-some _ _ c.code_of.ensures c.args.moment c.if-code_of-ne-NUMBER.false)
