-- `judge_station` asks for the region that the record's slot has.
use mathlib.Core.List.{List, map}
use mathlib.Core.Path.{refl, ap, ◌∙◌}
use Prim.Native.Nat.{ℕ}
use Rattle.schema.specs.Tables.{sheet_of}
use Rattle.schema.specs.Records.{record_shape}
use Rattle.fault.specs.Fault.{least}
use Rattle.document.specs.inner.Items.{picked_items}
use Rattle.document.specs.inner.Values.{text_by}
use Rattle.ids.specs.References.{refers as refers_to}
use Rattle.cross.specs.Cross.{record_place}
use Rattle.cross.specs.inner.Judged.{files_by}
use Rattle.cross.proofs.Numbers.{searchable_by}
use Rattle.cross.proofs.Joined.{breaks}
use Rattle.cross.proofs.Gathering.{station-is}
use Rattle.cross.proofs.stations.judge_station.Goals as goal

pub refers_in-requires : goal.refers_in-requires
refers_in-requires c =
    searchable_by c.file_in.ensures c.notes_in.ensures (c.requires.1.regions refl)

pub returns : goal.returns
returns c ms w =
    let a = c.args in
    breaks (record_place a.n 0) 25 c.refers_in.result c.broken.ensures
    (c.refers_in.ensures ∙ ap (λ (q : List ℕ). refers_to (text_by c.value_in-region.result.now) 100 (picked_items (record_shape (sheet_of a.table 8)) q)) c.file_in.ensures)
    ∙ ap least (station-is a.table (files_by a.table (map (λ p. p.now) a.records)) a.n c.requires.0 c.value_in-region.ensures.0 w)
