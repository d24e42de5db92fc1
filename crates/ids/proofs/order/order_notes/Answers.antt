-- As many places of an order are lent as records are entered; all are noted once they are in order.
use mathlib.Core.List.{List}
use mathlib.Core.Path.{◌≡◌, sym, ap, subst, ◌∙◌}
use Prim.Native.Nat.{ℕ, ◌≤◌}
use native.Mathlib.Omega.{arith}
use lib.ListN.{length, take, replicate, length-replicate}
use lib.Seq.{length-take-le}
use Rattle.limits.specs.Ceilings.{records}
use Rattle.sorting.specs.Ids.{id_at}
use Rattle.sorting.specs.Repeats.{first_repeat}
use Rattle.ids.specs.inner.Spread.{Sorted}
use Rattle.ids.proofs.Firsts.{first-most}
use Rattle.ids.proofs.Indexes.{indexed, first-is}
use Rattle.ids.proofs.order.order_notes.Goals as goal

-- so many places of an array
lent : (n : ℕ) → n ≤ records → length (take n (replicate {A = ℕ} records 0)) ≡ n
lent n h = length-take-le n (replicate {A = ℕ} records 0) (omega (arith, length-replicate {A = ℕ} records 0, h))

by_number : {p first notes : List ℕ} {n k : ℕ} → n ≡ k → Sorted p n first notes → Sorted p k first notes
by_number {p} {first} {notes} e = subst (λ (k : ℕ). Sorted p k first notes) e

pub slice_bounds-order_by-end : goal.slice_bounds-order_by-end
slice_bounds-order_by-end c = sym (lent c.args.n c.requires.0)

pub slice_bounds-order_by-end-2 : goal.slice_bounds-order_by-end-2
slice_bounds-order_by-end-2 c = sym (lent c.args.n c.requires.0)

pub slice_bounds-order_by-end-3 : goal.slice_bounds-order_by-end-3
slice_bounds-order_by-end-3 c = sym (lent c.args.n c.requires.0)

pub order_by-requires : goal.order_by-requires
order_by-requires c = let e = lent c.args.n c.requires.0 in let h = c.requires.0 in (e ∙ sym e, e ∙ sym e, omega (arith, e, h), c.requires.1)

pub overflow_cast-result : goal.overflow_cast-result
overflow_cast-result c =
    let a = c.args in
    let result_is : c.order_by.result ≡ first_repeat (id_at a.p.now a.notes.now) a.n =
    c.order_by.ensures.0 ∙ ap (first_repeat (id_at a.p.now a.notes.now)) (lent a.n c.requires.0) in
    omega (arith, result_is, first-most (id_at a.p.now a.notes.now) a.n, c.requires.0)

pub returns : goal.returns
returns c sheet w all =
    let a = c.args in
    let t = by_number (lent a.n c.requires.0) c.order_by.ensures.1 in
    (c.order_by.ensures.0 ∙ ap (first_repeat (id_at a.p.now a.notes.now)) (lent a.n c.requires.0) ∙ first-is w all t, indexed w all t)
