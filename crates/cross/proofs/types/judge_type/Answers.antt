-- `judge_type` joins what fields 13 and 14 break by the record's slots.
use mathlib.Core.List.{List, map}
use mathlib.Core.Path.{ap, ◌∙◌}
use Prim.Native.Nat.{ℕ}
use native.Mathlib.Omega.{arith}
use lib.Dec.{ltb}
use lib.ListN.{length}
use Rattle.schema.specs.Tables.{sheet_of}
use Rattle.schema.specs.Records.{record_shape}
use Rattle.fault.specs.Fault.{least}
use Rattle.document.specs.inner.Items.{picked_items}
use Rattle.document.specs.inner.Values.{text_by, there_by}
use Rattle.ids.specs.References.{demanded as demanded_of, refers as refers_to}
use Rattle.cross.specs.Cross.{record_place}
use Rattle.cross.specs.inner.Judged.{files_by}
use Rattle.cross.proofs.Numbers.{searchable_by}
use Rattle.cross.proofs.Joined.{both, breaks, joined}
use Rattle.cross.proofs.Gathering.{type_is}
use Rattle.cross.proofs.types.judge_type.Goals as goal

pub refers_in-requires : goal.refers_in-requires
refers_in-requires c =
    searchable_by c.file_in-plans.ensures c.notes_in.ensures (c.requires.1.plans (λ e. omega arith))

pub returns : goal.returns
returns c ms w =
    let a = c.args in let place = record_place a.n 0 in let plan = c.value_in-reference.result.now in
    both _ _ c.lesser-2.ensures
    (breaks place 13 c.demanded.result c.broken-a.ensures
    (c.demanded.ensures ∙ ap (λ t. demanded_of t (there_by c.value_in-2.result.now)) c.is_motorized-motorized.ensures))
    (joined place 14 _ _ c.lesser.ensures
    (breaks place 14 c.demanded-2.result c.broken-b.ensures
    (c.demanded-2.ensures ∙ ap (λ (q : List ℕ). demanded_of (ltb 0 (length q)) (there_by plan)) c.file_in-plans.ensures))
    (breaks place 14 c.refers_in.result c.broken-c.ensures
    (c.refers_in.ensures ∙ ap (λ (q : List ℕ). refers_to (text_by plan) 50 (picked_items (record_shape (sheet_of a.table 5)) q)) c.file_in-plans.ensures)))
    ∙ ap least
    (type_is a.table (files_by a.table (map (λ p. p.now) a.records)) a.n c.requires.0 c.value_in.ensures.0 c.value_in-2.ensures.0 c.value_in-reference.ensures.0 w)
