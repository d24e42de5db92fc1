use mathlib.Core.List.{[]}
use mathlib.Core.Path.{◌≡◌}
use Prim.Native.Nat.{◌-◌}
use lib.ListN.{length, get_or}
use Rattle.text.specs.Text.{meant}
use Rattle.sorting.proofs.Halving.{Halving}
use Rattle.walk.specs.Walk.{items_of}
use Rattle.ids.specs.inner.Ids.{record_bytes}
use Rattle.ids.specs.inner.Notes.{record_at}
use Rattle.ids.specs.inner.Known.{probe}
use Rattle.ids.proofs.Reading.{Reading}
use Rattle.ids.proofs.search.search.Given as goal

abbrev pub invariant-search : goal.invariant-search
invariant-search l = (l.met ≡ 0) × Halving (probe l.sheet l.p l.notes (meant l.raw l.id)) (length (items_of l.p)) l.left l.lo l.hi

abbrev pub decreases-search : goal.decreases-search
decreases-search l = l.hi - l.lo

abbrev pub invariant-loop-m : goal.invariant-loop-m
invariant-loop-m l =
    (l.met ≡ 0) × (l.lo ≡ l.initial.lo) × (l.hi ≡ l.initial.hi)
    × Reading l.sheet (get_or (record_bytes l.p) (record_at l.sheet l.p l.middle) []) l.record l.at

abbrev pub decreases-loop-m : goal.decreases-loop-m
decreases-loop-m l = length l.record - l.at
