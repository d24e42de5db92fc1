use mathlib.Core.List.{map}
use Prim.Native.Nat.{◌+◌, ◌-◌}
use Rattle.schema.specs.Tables.{table_at}
use Rattle.fault.specs.Outcome.{file_count}
use Rattle.cross.specs.Stage.{bytes_of}
use Rattle.cross.proofs.FromFile.{Reached}
use Rattle.verdict.specs.inner.Stages.{outcome_in}
use Rattle.verdict.proofs.stages.first_in.Given as goal

abbrev pub invariant-loop-file : goal.invariant-loop-file
invariant-loop-file l =
    let s = map (λ p. p.now) l.files in Reached (λ n. outcome_in (table_at l.table) l.stage n (bytes_of s n)) l.file

abbrev pub decreases-loop-file : goal.decreases-loop-file
decreases-loop-file l = file_count + 1 - l.file
