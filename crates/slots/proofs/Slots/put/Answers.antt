use mathlib.Core.Path.{sym}
use Rattle.slots.proofs.Filled.{put_here, put-past}
use Rattle.slots.proofs.Slots.put.Goals as goal

pub returns-then-row-lt-ROWS : goal.returns-then-row-lt-ROWS
returns-then-row-lt-ROWS c =
    let a = c.args in rw c.one_more.ensures (sym (put_here a.self.now a.row a.from a.upto c.if-row-lt-ROWS.true))

pub returns-else-row-lt-ROWS : goal.returns-else-row-lt-ROWS
returns-else-row-lt-ROWS c = let a = c.args in sym (put-past a.self.now a.row a.from a.upto c.if-row-lt-ROWS.false)
