use mathlib.Core.Path.{sym}
use Rattle.slots.proofs.Filled.{slot_here, slot-past}
use Rattle.slots.proofs.Slots.at.Goals as goal

pub returns-then-row-lt-ROWS : goal.returns-then-row-lt-ROWS
returns-then-row-lt-ROWS c = sym (slot_here c.args.self.now c.args.row c.if-row-lt-ROWS.true)

pub returns-else-row-lt-ROWS : goal.returns-else-row-lt-ROWS
returns-else-row-lt-ROWS c = sym (slot-past c.args.self.now c.args.row c.if-row-lt-ROWS.false)
