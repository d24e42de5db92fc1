-- Each half is sorted into the other list, and their merge is the whole, sorted. The measure is twice the number of records that are to be sorted, and one
-- more where they are only a part of the list: it falls with each call.
use mathlib.Core.Path.{ap, ◌∙◌}
use Prim.Native.Nat.{◌/◌}
use native.Mathlib.Omega.{arith}
use lib.ListN.{length}
use Rattle.sorting.specs.Sorting.{sorted, numbers}
use Rattle.sorting.specs.Ids.{id_at, not_after}
use Rattle.sorting.proofs.Records.{records_total}
use Rattle.sorting.proofs.Halves.{none-sorted, one-sorted, halves-whole}
use Rattle.sorting.proofs.sort.+sort_back_sort_from_sort_front.Goals as goal

pub sort_from-returns-then-n-lt1 : goal.sort_from-returns-then-n-lt1
sort_from-returns-then-n-lt1 t c =
    let q = c.args in none-sorted (not_after (id_at q.ids.now.p.now q.ids.now.places.now)) q.first q.order.now c.if-n-lt1.true

pub sort_from-returns-then-n-lt2 : goal.sort_from-returns-then-n-lt2
sort_from-returns-then-n-lt2 t c =
    let q = c.args in one-sorted (not_after (id_at q.ids.now.p.now q.ids.now.places.now)) q.first q.order.now c.if-n-lt1.false c.if-n-lt2.true

pub sort_from-returns : goal.sort_from-returns
sort_from-returns t c =
    let q = c.args in let le = not_after (id_at q.ids.now.p.now q.ids.now.places.now) in
    c.merge_halves.ensures
    ∙ halves-whole le q.first (records_total (id_at q.ids.now.p.now q.ids.now.places.now)) (length q.order.now / 2) q.spare.now c.sort_front.new.order
    c.sort_back.new.order (omega (arith, c.requires.0)) c.sort_front.ensures c.sort_back.ensures
    ∙ ap (λ k. sorted le (numbers q.first k)) c.requires.0
