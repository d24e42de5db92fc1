use mathlib.Core.Path.{◌≡◌}
use Rattle.lexeme.specs.Character.Surrogates.{paired}
use Rattle.json_text.proofs.StringEnds.{end-from}
use Rattle.json_text.proofs.strings.plain_end.Given as goal

abbrev pub invariant-loop-i : goal.invariant-loop-i
invariant-loop-i l = end-from paired l.s l.i ≡ end-from paired l.s l.at
