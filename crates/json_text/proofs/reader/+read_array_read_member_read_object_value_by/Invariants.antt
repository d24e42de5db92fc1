-- The measure is three times the levels left and the function's rank, which is above that of those which it calls with as many levels, and falls
-- with each call. The loops' invariant: what is left to read decides where the whole ends, and so arrays and objects differ in the closing
-- bracket and in what an element is.
use Rattle.std.proofs.Common.{◌+◌, ◌-◌, ◌*◌, length}
use Rattle.lexeme.specs.Character.{paired}
use Rattle.json_text.specs.Text.{member, value}
use Rattle.json_text.proofs.Loops.{Pending}
use Rattle.json_text.proofs.reader.+read_array_read_member_read_object_value_by.Given as goal

abbrev pub decreases-value_by : goal.decreases-value_by
decreases-value_by l = 3 * l.levels + 0

abbrev pub decreases-read_member : goal.decreases-read_member
decreases-read_member l = 3 * l.levels + 1

abbrev pub decreases-read_array : goal.decreases-read_array
decreases-read_array l = 3 * l.levels + 2

abbrev pub decreases-read_object : goal.decreases-read_object
decreases-read_object l = 3 * l.levels + 2

abbrev pub invariant-read_array-loop-end : goal.invariant-read_array-loop-end
invariant-read_array-loop-end l = Pending 0x5d (value paired l.levels) l.s l.at l.i

abbrev pub decreases-read_array-loop-end : goal.decreases-read_array-loop-end
decreases-read_array-loop-end l = length l.s - l.i

abbrev pub invariant-read_object-loop-end : goal.invariant-read_object-loop-end
invariant-read_object-loop-end l = Pending 0x7d (member paired (value paired l.levels)) l.s l.at l.i

abbrev pub decreases-read_object-loop-end : goal.decreases-read_object-loop-end
decreases-read_object-loop-end l = length l.s - l.i
