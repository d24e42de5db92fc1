use Rattle.std.proofs.Common.{ℕ, Err, ◌≤◌, ◌<◌, ◌-◌, length}
use Rattle.folder.specs.declared.Refusal.TheVariants.{TooLarge}
use Rattle.folder.specs.Reading.{Decides}
use Rattle.folder.proofs.reading.read_to_end.Given as goal

-- a byte was read at least where the place has moved
abbrev pub invariant-loop-to : goal.invariant-loop-to
invariant-loop-to g l = (l.to ≤ length l.room) × (0 < l.to → Decides {A = ℕ} l.last (Err TooLarge))

abbrev pub decreases-loop-to : goal.decreases-loop-to
decreases-loop-to g l = length l.room - l.to
