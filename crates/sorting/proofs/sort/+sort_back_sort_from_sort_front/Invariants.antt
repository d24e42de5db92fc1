use Prim.Native.Nat.{◌+◌, ◌-◌, ◌*◌}
use lib.ListN.{length}
use Rattle.sorting.proofs.sort.+sort_back_sort_from_sort_front.Given as goal

abbrev pub decreases-sort_back : goal.decreases-sort_back
decreases-sort_back l = 2 * (length l.order.now - l.middle) + 1

abbrev pub decreases-sort_from : goal.decreases-sort_from
decreases-sort_from l = 2 * length l.order.now

abbrev pub decreases-sort_front : goal.decreases-sort_front
decreases-sort_front l = 2 * l.middle + 1
