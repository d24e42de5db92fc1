-- `parts_in` says of each outcome what its word says.
use Rattle.verdict.proofs.parts_in.Goals as goal

pub returns-in-Ok : goal.returns-in-Ok
returns-in-Ok c = rw c.in-Ok.is
