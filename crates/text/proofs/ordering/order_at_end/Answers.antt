-- The next step tells whether a byte is left.
use mathlib.Core.Path.{refl, sym}
use Rattle.text.proofs.Ordered.{order-end, order-short}
use Rattle.text.proofs.Seeing.{no-meant, one-meant}
use Rattle.text.proofs.ordering.order_at_end.Goals as goal

pub returns-in-None : goal.returns-in-None
returns-in-None c = sym (order-end refl (no-meant _ _ _ c.next_meant.ensures c.in-None.is))

pub returns-in-Some : goal.returns-in-Some
returns-in-Some c = sym (order-short refl (one-meant _ _ _ _ _ c.next_meant.ensures c.in-Some.is))
