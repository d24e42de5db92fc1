-- Both halves are the runs, and as long as the whole.
use mathlib.Core.Path.{ap, ◌∙◌}
use lib.ListN.{length, take, length-take, length-drop}
use Rattle.sorting.specs.Ids.{id_at, not_after}
use Rattle.sorting.specs.inner.Merge.{merge}
use Rattle.sorting.proofs.Rests.{to_end}
use native.Mathlib.Omega.{arith}
use Rattle.sorting.proofs.merge.merge_halves.Goals as goal

pub slice_bounds-merge-end : goal.slice_bounds-merge-end
slice_bounds-merge-end c =
    let q = c.args in omega (arith, length-take q.middle q.halves.now, c.requires.0)

pub merge-requires : goal.merge-requires
merge-requires c =
    let l = c.args.halves.now in let m = c.args.middle in
    omega (arith, length-take m l, ap length (to_end l m), length-drop m l, c.requires.0, c.requires.1)

pub returns : goal.returns
returns c =
    let q = c.args in let l = q.halves.now in
    c.merge.ensures ∙ ap (merge (not_after (id_at q.ids.now.p.now q.ids.now.places.now)) (take q.middle l)) (to_end l q.middle)
