-- Zones are judged by what is known of types.
use mathlib.Core.List.{List}
use mathlib.Core.Path.{sym, ap₂, subst, ◌∙◌}
use Prim.Native.Nat.{ℕ}
use native.Mathlib.Omega.{arith}
use Rattle.schema.specs.Tables.{sheet_of}
use Rattle.schema.specs.Records.{record_shape}
use Rattle.fault.specs.Fault.{least}
use Rattle.document.specs.inner.Items.{picked_items}
use Rattle.cross.specs.Cross.{zone_faults, each_record, faults_of}
use Rattle.cross.specs.inner.Recorded.{Recorded}
use Rattle.cross.proofs.Numbers.{searchable_by}
use Rattle.cross.proofs.Tabled.{has-ids}
use Rattle.feedset.proofs.Staging.{no_repeat}
use Rattle.feedset.proofs.stage.judge_last.Goals as goal

pub judge_zones-requires : goal.judge_zones-requires
judge_zones-requires c =
    let x = c.requires in
    (searchable_by c.file_in-2.ensures c.notes_in.ensures (x.1.types (omega arith)), subst Recorded (sym c.file_in.ensures) x.0)

pub returns : goal.returns
unfolding faults_of
returns c =
    let table = c.args.table in
    record {
      repeats = no_repeat (sheet_of table 6) (has-ids table 6 (omega arith) (omega arith)) _;
      breaks = c.judge_zones.ensures
          ∙ ap₂ (λ (q p : List ℕ). least (each_record (zone_faults (picked_items (record_shape (sheet_of table 1)) q)) 1 (picked_items (record_shape (sheet_of table 6)) p))) c.file_in-2.ensures c.file_in.ensures;
    }
