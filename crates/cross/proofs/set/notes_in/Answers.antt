-- What is read of an element is the element of what is read.
use mathlib.Core.Path.{sym}
use lib.ListN.{get_or-map}
use Rattle.cross.proofs.set.notes_in.Goals as goal

pub returns : goal.returns
returns c = sym (get_or-map _ c.args.notes c.args.i _)
