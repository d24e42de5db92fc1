-- The measure is five times the levels left and the function's rank, and falls with each call. The loops' invariants: along an array the least so
-- far, with the items that are left, makes the least of all; along an object the slots tell what was met.
use Prim.Native.Nat.{◌+◌, ◌*◌, ◌-◌, ◌<◌, ◌≤◌}
use lib.ListN.{length}
use Rattle.judge.proofs.Items.{ItemsMet}
use Rattle.judge.proofs.Meeting.{Meeting}
use Rattle.judge.proofs.part.+judge_array_judge_member_judge_members_judge_object_judge_single.Given as goal

abbrev pub decreases-judge_object : goal.decreases-judge_object
decreases-judge_object l = 5 * l.level + 0

abbrev pub decreases-judge_single : goal.decreases-judge_single
decreases-judge_single l = 5 * l.level + 1

abbrev pub decreases-judge_array : goal.decreases-judge_array
decreases-judge_array l = 5 * l.level + 2

abbrev pub decreases-judge_member : goal.decreases-judge_member
decreases-judge_member l = 5 * l.level + 3

abbrev pub decreases-judge_members : goal.decreases-judge_members
decreases-judge_members l = 5 * l.level + 4

-- arrays
abbrev pub invariant-judge_array-loop-row : goal.invariant-judge_array-loop-row
invariant-judge_array-loop-row l = (l.n < l.at) × (l.at ≤ length l.p + 1) × ItemsMet l.p l.row.i l.place l.level l.at l.least l.n

abbrev pub decreases-judge_array-loop-row : goal.decreases-judge_array-loop-row
decreases-judge_array-loop-row l = length l.p + 1 - l.at

-- the members of an object
abbrev pub invariant-judge_members-loop-m : goal.invariant-judge_members-loop-m
invariant-judge_members-loop-m l = Meeting l.p l.first l.count l.place l.level l.slots l.leasts l.at

abbrev pub decreases-judge_members-loop-m : goal.decreases-judge_members-loop-m
decreases-judge_members-loop-m l = length l.p - l.at
