-- What the types tell that are available at a station.
use Rattle.std.specs.Prelude.{List, ◌≡◌, ℕ}
use Rattle.schema.specs.Pick.{Picked}
use Rattle.fault.specs.Fault.{least}
use Rattle.cross.specs.declared.statuses.Tally.{Tally}
use Rattle.cross.specs.Cross.{sum_of, available_faults}

-- the sum of the counts of items l of the n-th status, and the least of the rules that they break
pub record Tallies (n : ℕ) (types l : List Picked) (tally : Tally) : Type 0 where
  pub sums : tally.sum ≡ sum_of l
  pub breaks : tally.least ≡ least (available_faults types n 1 l)
