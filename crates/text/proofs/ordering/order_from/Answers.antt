-- Of raw bytes those at the place are left at a cursor there; a spelling means its text.
use mathlib.Core.Bool.{Bool}
use mathlib.Core.Path.{sym, ap, ◌∙◌}
use lib.ListN.{drop}
use Rattle.text.specs.Text.{text_of, meant}
use Rattle.text.specs.Ordering.{order_of}
use Rattle.text.specs.inner.Walk.{left_by}
use Rattle.text.proofs.Decoding.{left_at}
use Rattle.text.proofs.Seeing.{left-meant}
use Rattle.text.proofs.ordering.order_from.Goals as goal

pub returns-then-raw : goal.returns-then-raw
returns-then-raw c =
    let q = c.args in
    c.order_left.ensures
    ∙ ap (λ x. order_of x (left_by q.raw q.b.now c.cursor_at-then-raw.result)) (left_at q.a.now q.at _ c.cursor_at.ensures)
    ∙ ap (order_of (text_of (drop q.at q.a.now))) (left-meant q.b.now q.raw q.at _ c.cursor_at-then-raw.ensures)

pub returns-else-raw : goal.returns-else-raw
returns-else-raw c =
    let q = c.args in
    c.order_spelled.ensures ∙ ap (λ (r : Bool). order_of (text_of (drop q.at q.a.now)) (meant r (drop q.at q.b.now))) (sym c.if-raw.false)
