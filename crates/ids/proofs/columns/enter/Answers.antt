-- The stores are those of the definition, in its order.
use mathlib.Core.Path.{ap}
use Prim.Native.Nat.{◌+◌, ◌*◌}
use lib.ListN.{set}
use Rattle.limits.specs.Ceilings.{records}
use Rattle.ids.specs.inner.Notes.{entered}
use Rattle.ids.proofs.columns.enter.Goals as goal

pub returns : goal.returns
unfolding entered
returns c =
    let a = c.args in let notes = set (set a.notes.now a.k a.place) (records + a.k) a.from in
    ap (set notes (2 * records + a.k)) c.doubled-mark.ensures
