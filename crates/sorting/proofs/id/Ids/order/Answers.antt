-- What the keys say is so, and where they say nothing the texts are compared.
use mathlib.Core.Path.{refl, sym}
use Rattle.sorting.specs.Ids.{id_at}
use Rattle.sorting.proofs.Keying.{told}
use Rattle.sorting.proofs.Records.{order-told}
use Rattle.sorting.proofs.id.Ids.order.Goals as goal

pub returns-in_default : goal.returns-in_default
returns-in_default c =
    let q = c.args in told q.self.now.keys.now q.i q.j (id_at q.self.now.p.now q.self.now.places.now) q.self.now.tells _ c.key_order.ensures c.in_default.not-Equal

pub returns-in-Equal : goal.returns-in-Equal
returns-in-Equal c =
    let q = c.args in
    sym (order-told q.self.now.p.now q.self.now.places.now q.i q.j c.id_from.ensures c.id_from-in-Equal.ensures c.order_of.ensures refl)
