-- The order of the two ids decides, case by case.
use mathlib.Core.Path.{sym, ◌∙◌}
use Rattle.sorting.specs.Ids.{id_at}
use Rattle.sorting.proofs.Records.{after_less, after_equal, after_greater}
use Rattle.sorting.proofs.id.Ids.not_after.Goals as goal

pub returns-in-Less : goal.returns-in-Less
returns-in-Less c =
    let q = c.args in sym (after_less (id_at q.self.now.p.now q.self.now.places.now) q.i q.j (sym c.order.ensures ∙ c.in-Less.is))

pub returns-in-Equal : goal.returns-in-Equal
returns-in-Equal c =
    let q = c.args in sym (after_equal (id_at q.self.now.p.now q.self.now.places.now) q.i q.j (sym c.order.ensures ∙ c.in-Equal.is))

pub returns-in-Greater : goal.returns-in-Greater
returns-in-Greater c =
    let q = c.args in sym (after_greater (id_at q.self.now.p.now q.self.now.places.now) q.i q.j (sym c.order.ensures ∙ c.in-Greater.is))

pub order-requires : goal.order-requires
order-requires c = c.requires
