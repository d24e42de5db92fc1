-- `judge_status` joins what the fields of its station and of its counts break by the record's slots.
use mathlib.Core.List.{List, map}
use mathlib.Core.Path.{ap, ◌∙◌}
use Prim.Native.Nat.{ℕ}
use native.Mathlib.Omega.{arith}
use Rattle.schema.specs.Tables.{sheet_of}
use Rattle.fault.specs.Fault.{least}
use Rattle.cross.specs.Cross.{record_place}
use Rattle.cross.specs.inner.Judged.{file_by, files_by, docks_by, counts_by}
use Rattle.cross.proofs.Numbers.{searchable_by}
use Rattle.cross.proofs.Joined.{both}
use Rattle.cross.proofs.Gathering.{status-is, counts-along}
use Rattle.cross.proofs.statuses.judge_status.Goals as goal

pub judge_docks-a-requires : goal.judge_docks-a-requires
judge_docks-a-requires c =
    searchable_by c.file_in.ensures c.notes_in.ensures (c.requires.1.stations (omega arith))

pub judge_counts-b-requires : goal.judge_counts-b-requires
judge_counts-b-requires c =
    let x = c.requires in (
      searchable_by c.file_in-2.ensures c.notes_in-2.ensures (x.1.types (omega arith)),
      omega (arith, x.2, c.value_in-3.ensures.1),
      counts-along c.args.table x.0 c.value_in-3.ensures.0 x.3.1,
    )

pub returns : goal.returns
returns c ms w =
    let a = c.args in
    both _ _ c.lesser.ensures
    (c.judge_docks-a.ensures
    ∙ ap (λ (q : List ℕ). least (docks_by (record_place a.n 0) (file_by (sheet_of a.table 2) q) c.value_in.result.now c.value_in-2.result.now)) c.file_in.ensures)
    (c.judge_counts-b.ensures
    ∙ ap (λ (q : List ℕ). least (counts_by a.n (file_by (sheet_of a.table 1) q) c.value_in-3.result.now c.value_in-4.result.now)) c.file_in-2.ensures)
    ∙ ap least
    (status-is a.table (files_by a.table (map (λ p. p.now) a.records)) a.n c.requires.0
    c.value_in.ensures.0 c.value_in-2.ensures.0 c.value_in-3.ensures.0 c.value_in-4.ensures.0 w)
