-- On the line and between its ends.
use native.Mathlib.Omega.{arith}
use Rattle.std.proofs.lemmas.Grind.{common_steps}
use Rattle.geometry.proofs.Ways.{on-edge-tests}
use Rattle.geometry.proofs.edge.on_edge.Goals as goal

pub returns-then-between : goal.returns-then-between
returns-then-between c = grind (arith, common_steps, on-edge-tests)

pub returns-else-between : goal.returns-else-between
returns-else-between c = grind (arith, common_steps, on-edge-tests)
