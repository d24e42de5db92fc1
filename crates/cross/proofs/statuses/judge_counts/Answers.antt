-- `judge_counts` joins what field 37 breaks in two ways, and what its items break.
use mathlib.Core.Bool.{not}
use mathlib.Core.List.{List}
use mathlib.Core.Path.{◌≡◌, sym, ap, subst, ◌∙◌}
use Prim.Native.Nat.{ℕ, ◌<◌}
use native.Mathlib.Omega.{arith}
use lib.Dec.{eqb}
use lib.ListN.{length}
use Rattle.notation.specs.Choice.{◌and◌}
use Rattle.word.specs.Kinds.{sum_differs}
use Rattle.walk.specs.inner.Along.{AlongItems}
use Rattle.schema.specs.Table23.{available}
use Rattle.schema.specs.Tables.{sheet_of}
use Rattle.schema.specs.Records.{record_shape}
use Rattle.fault.specs.Fault.{least}
use Rattle.document.specs.inner.Items.{picked_items}
use Rattle.document.specs.Values.{integer_in}
use Rattle.document.specs.inner.Values.{there_by, array_by, spelled_by}
use Rattle.document.proofs.Sizes.{array-short}
use Rattle.ids.specs.References.{kind_if}
use Rattle.cross.specs.Cross.{record_place, sum_of, available_faults}
use Rattle.cross.proofs.Joined.{both, breaks, joined}
use Rattle.cross.proofs.statuses.judge_counts.Goals as goal

pub judge_available-tally-requires : goal.judge_available-tally-requires
judge_available-tally-requires c = (
  c.requires.0,
  omega (arith, ap length c.array_in.ensures, array-short c.args.available.now, c.requires.1),
  subst (λ (q : List ℕ). 0 < length q → AlongItems q 1) (sym c.array_in.ensures) c.requires.2,
)

pub returns : goal.returns
returns c =
    let a = c.args in
    let types = picked_items (record_shape (sheet_of a.table 1)) a.types.now in let place = record_place a.n 0 in
    let sum : c.judge_available-tally.result.sum ≡ sum_of (picked_items available (array_by a.available.now)) =
    c.judge_available-tally.ensures.sums ∙ ap (λ q. sum_of (picked_items available q)) c.array_in.ensures in
    both _ _ c.lesser-2.ensures
    (joined place 37 _ _ c.lesser.ensures
    (breaks place 37 c.demanded.result c.broken-a.ensures c.demanded.ensures)
    (breaks place 37 c.sum_kind.result c.broken-b.ensures
    (c.sum_kind.ensures ∙ ap (λ (x : ℕ). kind_if (there_by a.available.now and not (eqb x (integer_in (spelled_by a.bikes.now)))) sum_differs) sum)))
    (c.judge_available-tally.ensures.breaks ∙ ap (λ q. least (available_faults types a.n 1 (picked_items available q))) c.array_in.ensures)
