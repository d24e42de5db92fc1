use mathlib.Core.List.{map}
use Prim.Native.Nat.{◌-◌}
use lib.ListN.{length}
use Rattle.schema.specs.Tables.{sheet_of}
use Rattle.schema.specs.Records.{record_shape}
use Rattle.ids.proofs.Passing.{Noting}
use Rattle.cross.specs.Cross.{faults_of}
use Rattle.cross.specs.inner.Judged.{files_by}
use Rattle.cross.proofs.Walked.{Judging}
use Rattle.feedset.proofs.records.judge_records.Given as goal

abbrev pub invariant-loop-item : goal.invariant-loop-item
invariant-loop-item l =
    Noting (sheet_of l.table l.file) l.p l.noted l.n l.at
    × Judging (faults_of (files_by l.table (map (λ q. q.now) l.records)) l.file) (record_shape (sheet_of l.table l.file)) l.p l.n l.at l.least

abbrev pub decreases-loop-item : goal.decreases-loop-item
decreases-loop-item l = length l.p - l.at
