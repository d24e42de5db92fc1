use mathlib.Core.List.{map}
use Prim.Native.Nat.{◌+◌, ◌-◌}
use Rattle.fault.specs.Outcome.{file_count}
use Rattle.feedset.specs.inner.Staged.{file_outcome}
use Rattle.cross.proofs.FromFile.{Reached}
use Rattle.feedset.proofs.stage.judge_noted.Given as goal

abbrev pub invariant-loop-file : goal.invariant-loop-file
invariant-loop-file l = Reached (file_outcome l.table (map (λ p. p.now) l.records)) l.file

abbrev pub decreases-loop-file : goal.decreases-loop-file
decreases-loop-file l = file_count + 1 - l.file
