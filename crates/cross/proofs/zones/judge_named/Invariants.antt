use Prim.Native.Nat.{ℕ, ◌-◌}
use lib.ListN.{length}
use Rattle.schema.specs.Shape.{Sort, scalar}
use Rattle.schema.specs.Tables.{sheet_of}
use Rattle.schema.specs.Records.{record_shape}
use Rattle.document.specs.inner.Items.{picked_items}
use Rattle.cross.proofs.Walked.{Judging}
use Rattle.cross.proofs.Fielded.{id_item}
use Rattle.cross.proofs.zones.judge_named.Given as goal

abbrev pub invariant-loop-item : goal.invariant-loop-item
invariant-loop-item l =
    (k : ℕ) × Judging (id_item (picked_items (record_shape (sheet_of l.table 1)) l.types) l.place.«record» l.place.sub) (scalar Sort.id) l.p k l.at l.least

abbrev pub decreases-loop-item : goal.decreases-loop-item
decreases-loop-item l = length l.p - l.at
