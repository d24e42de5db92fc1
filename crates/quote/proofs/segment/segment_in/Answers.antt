-- Each member of a clear segment is clear, and is read by itself.
use mathlib.Core.List.{[]}
use mathlib.Core.Logic.{◌⊎◌}
use mathlib.Core.Path.{◌≡◌, sym, subst}
use Rattle.schema.specs.Shape as shape
use Rattle.quote.specs.inner.Values.{segment_by}
use Rattle.quote.specs.inner.Clear.{ClearValue}
use Rattle.quote.proofs.Fields.{start-clear, rate_clear, interval_clear, end-clear}
use Rattle.quote.proofs.segment.segment_in.Goals as goal

pub integer_in-requires : goal.integer_in-requires
integer_in-requires c =
    let k = c.requires in
    subst (ClearValue shape.integer) (sym (c.member.ensures _ k.1.whole)) (start-clear k.0 k.1)

pub money_in-requires : goal.money_in-requires
money_in-requires c =
    let k = c.requires in
    subst (ClearValue shape.money) (sym (c.member-2.ensures _ k.1.whole)) (rate_clear k.0 k.1)

pub integer_in-requires-2 : goal.integer_in-requires-2
integer_in-requires-2 c =
    let k = c.requires in
    subst (ClearValue shape.integer) (sym (c.member-3.ensures _ k.1.whole)) (interval_clear k.0 k.1)

pub end_in-requires : goal.end_in-requires
end_in-requires c =
    let k = c.requires in
    subst (λ q. (q ≡ []) ⊎ ClearValue shape.integer q) (sym (c.member-4.ensures _ k.1.whole)) (end-clear k.0 k.1)

pub returns : goal.returns
unfolding segment_by
returns c =
    let w = c.requires.1.whole in
    rw (c.end_in.ensures, c.integer_in-2.ensures, c.member-3.ensures _ w, c.money_in.ensures, c.member-2.ensures _ w, c.integer_in.ensures, c.member.ensures _ w, c.member-4.ensures _ w)
