-- `begins_blank` goes by the first two bytes.
use borrow.Author.Tests.{ne_eqb}
use Rattle.slots.proofs.Blanks.{other-first, by-second}
use Rattle.slots.proofs.begins_blank.Goals as goal

pub returns-then-first-eq34 : goal.returns-then-first-eq34
returns-then-first-eq34 c =
    by-second c.args.p.now _ c.first.ensures _ c.first-then-first-eq34.ensures c.if-first-eq34.true

pub returns-else-first-eq34 : goal.returns-else-first-eq34
returns-else-first-eq34 c =
    rw (ne_eqb _ _ c.if-first-eq34.false) (other-first c.args.p.now _ c.first.ensures c.if-first-eq34.false)
