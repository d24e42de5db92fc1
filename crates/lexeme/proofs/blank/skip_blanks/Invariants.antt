use mathlib.Core.Path.{◌≡◌}
use lib.ListN.{drop}
use Rattle.lexeme.specs.Tokens.{blank, blanks}
use Rattle.lexeme.proofs.Spans.{past}
use Rattle.lexeme.proofs.blank.skip_blanks.Given as goal

abbrev pub invariant-loop-i : goal.invariant-loop-i
invariant-loop-i l = past blank (drop l.i l.s) ≡ blanks (drop l.at l.s)
