use mathlib.Core.Path.{◌≡◌}
use Prim.Native.Nat.{◌-◌}
use lib.ListN.{length}
use Rattle.lexeme.specs.Character.Surrogates.{paired}
use Rattle.json_text.proofs.StringEnds.{end-from}
use Rattle.json_text.proofs.strings.read_string.Given as goal

abbrev pub invariant-loop-i : goal.invariant-loop-i
invariant-loop-i l = end-from paired l.s l.i ≡ end-from paired l.s l.at

abbrev pub decreases-loop-i : goal.decreases-loop-i
decreases-loop-i l = length l.s - l.i
