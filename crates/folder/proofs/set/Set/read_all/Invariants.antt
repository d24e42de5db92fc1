use Rattle.std.proofs.Common.{◌≡◌, ◌≤◌, Some, get_or}
use Rattle.folder.specs.Places.{InOrder}
use Rattle.folder.specs.Desk.{most}
use Rattle.folder.proofs.set.Set.read_all.Given as goal

-- each turn begins where the file before it ended, within the buffer
abbrev pub invariant-loop-i : goal.invariant-loop-i
invariant-loop-i g l = (get_or l.self.places l.i 0 ≤ most) × InOrder l.i most l.self.places × (l.self.last ≡ Some 0)
