-- The order of the ids tells whether they are the same; where they are, the record has an id unless that has no bytes.
use mathlib.Core.Path.{sym, ap, ◌∙◌}
use mathlib.Core.List.{[]}
use mathlib.Core.Logic.{inl, inr}
use Rattle.text.specs.Text.{text_of, same}
use Rattle.sorting.specs.Ids.{id_at}
use Rattle.sorting.proofs.Neighbours.{same-told, same_less, same_greater}
use Rattle.sorting.proofs.id.Ids.same.Goals as goal

pub returns-in-Less : goal.returns-in-Less
returns-in-Less c =
    let q = c.args in let ids = id_at q.self.now.p.now q.self.now.places.now in
    elim c.in-Less.is [
      | inl e ↦ sym (same_less ids q.i q.j (sym c.order.ensures ∙ e))
      | inr e ↦ sym (same_greater ids q.i q.j (sym c.order.ensures ∙ e))
    ]

pub returns-in-Equal : goal.returns-in-Equal
returns-in-Equal c =
    let q = c.args in
    same-told (id_at q.self.now.p.now q.self.now.places.now) q.i q.j (sym c.order.ensures
    ∙ c.in-Equal.is) (c.text_is.ensures
    ∙ ap (λ x. same (text_of x) []) c.id_from.ensures)
