-- The element of the list, or the default past its end.
use mathlib.Core.Path.{sym}
use lib.ListN.{get_or-eq_default}
use Rattle.sorting.proofs.id.place_at.Goals as goal

pub returns-else-k-places : goal.returns-else-k-places
returns-else-k-places c = sym (get_or-eq_default c.args.places.now 0 c.if-k-places.false)
