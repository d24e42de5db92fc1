-- `judge_bike` joins what the fields of its position, its type, its station and its plan break by the record's slots.
use mathlib.Core.List.{List, map}
use mathlib.Core.Path.{ap, ◌∙◌}
use Prim.Native.Nat.{ℕ}
use native.Mathlib.Omega.{arith}
use Rattle.schema.specs.Tables.{sheet_of}
use Rattle.schema.specs.Records.{record_shape}
use Rattle.fault.specs.Fault.{least}
use Rattle.document.specs.inner.Items.{picked_items}
use Rattle.document.specs.inner.Values.{text_by}
use Rattle.ids.specs.References.{refers as refers_to}
use Rattle.cross.specs.Cross.{record_place}
use Rattle.cross.specs.inner.Judged.{file_by, files_by, vehicle_by}
use Rattle.cross.proofs.Numbers.{searchable_by}
use Rattle.cross.proofs.Joined.{both, breaks}
use Rattle.cross.proofs.Gathering.{bike-is}
use Rattle.cross.proofs.bikes.judge_bike.Goals as goal

pub judge_vehicle-b-requires : goal.judge_vehicle-b-requires
judge_vehicle-b-requires c =
    searchable_by c.file_in.ensures c.notes_in.ensures (c.requires.1.types (omega arith))

pub refers_in-requires : goal.refers_in-requires
refers_in-requires c =
    searchable_by c.file_in-2.ensures c.notes_in-2.ensures (c.requires.1.stations (omega arith))

pub refers_in-requires-2 : goal.refers_in-requires-2
refers_in-requires-2 c =
    searchable_by c.file_in-3.ensures c.notes_in-3.ensures (c.requires.1.plans (λ e. omega arith))

pub returns : goal.returns
returns c ms w =
    let a = c.args in let place = record_place a.n 0 in
    both _ _ c.lesser-3.ensures
    (both _ _ c.lesser.ensures c.judge_position-a.ensures
    (c.judge_vehicle-b.ensures
    ∙ ap (λ (q : List ℕ). least (vehicle_by place (file_by (sheet_of a.table 1) q) c.value_in-3.result.now c.value_in-4.result.now)) c.file_in.ensures))
    (both _ _ c.lesser-2.ensures
    (breaks place 47 c.refers_in.result c.broken-c.ensures
    (c.refers_in.ensures ∙ ap (λ (q : List ℕ). refers_to (text_by c.value_in-station.result.now) 20 (picked_items (record_shape (sheet_of a.table 2)) q)) c.file_in-2.ensures))
    (breaks place 48 c.refers_in-2.result c.broken-d.ensures
    (c.refers_in-2.ensures ∙ ap (λ (q : List ℕ). refers_to (text_by c.value_in-plan.result.now) 50 (picked_items (record_shape (sheet_of a.table 5)) q)) c.file_in-3.ensures)))
    ∙ ap least
    (bike-is a.table (files_by a.table (map (λ p. p.now) a.records)) a.n c.requires.0 c.value_in.ensures.0 c.value_in-2.ensures.0
    c.value_in-3.ensures.0 c.value_in-4.ensures.0 c.value_in-station.ensures.0 c.value_in-plan.ensures.0 w)
