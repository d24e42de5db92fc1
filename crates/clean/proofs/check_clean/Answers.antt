-- `check_clean` notes the records in notes of its own.
use Rattle.ids.proofs.Entering.{fresh}
use Rattle.clean.proofs.check_clean.Goals as goal

pub returns : goal.returns
returns c = c.check_noted.ensures.0

pub check_noted-requires : goal.check_noted-requires
check_noted-requires c = fresh
