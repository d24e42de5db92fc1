use mathlib.Core.Path.{◌≡◌}
use lib.ListN.{drop}
use Rattle.lexeme.specs.Tokens.{literal}
use Rattle.lexeme.proofs.literal.read_literal.Given as goal

abbrev pub invariant-loop-c : goal.invariant-loop-c
invariant-loop-c l = literal l.word (tt {0}) (drop l.at l.s) ≡ literal (drop l.c-index l.word) tt (drop l.i l.s)
