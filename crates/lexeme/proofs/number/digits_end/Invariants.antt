use mathlib.Core.Path.{◌≡◌}
use lib.ListN.{drop}
use Rattle.lexeme.specs.Numbers.{digit}
use Rattle.lexeme.proofs.Spans.{past}
use Rattle.lexeme.proofs.number.digits_end.Given as goal

abbrev pub invariant-loop-i : goal.invariant-loop-i
invariant-loop-i l = past digit (drop l.i l.s) ≡ past digit (drop l.at l.s)
