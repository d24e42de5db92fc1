-- The records are arranged, their marks spread, and the columns put in order.
use mathlib.Core.Path.{sym, subst, ◌∙◌}
use Prim.Native.Nat.{ℕ}
use native.Mathlib.Omega.{arith}
use Rattle.sorting.specs.Ids.{id_at}
use Rattle.sorting.specs.inner.Keys.{Telling}
use Rattle.sorting.proofs.Orders.{is_record}
use Rattle.sorting.proofs.Keying.{keyed_telling}
use Rattle.ids.proofs.order.order_by.Goals as goal

pub spread-requires : goal.spread-requires
spread-requires c =
    let y = c.arrange-first.ensures in
    let x = c.requires in let a = c.args in
    (omega (arith, y.long, x.2), y.all ∙ sym y.long, x.3, y.ordered, subst (λ (n : ℕ). Telling (id_at a.p.now a.notes.now) n c.arrange-first.new.keys) (sym y.all) (keyed_telling y.keyed))

pub settle-requires : goal.settle-requires
settle-requires c =
    let y = c.arrange-first.ensures in
    let x = c.requires in let a = c.args in
    (record { few = omega (arith, y.long, x.2); each = is_record (id_at a.p.now a.notes.now) _ y.ordered }, y.all ∙ sym y.long, c.common_front-front.ensures.1, c.spread.ensures.marks.long)
