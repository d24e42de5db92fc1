-- A plain byte leaves where the string ends as it is.
use mathlib.Core.Path.{◌∙◌}
use native.Mathlib.Omega.{arith}
use Rattle.lexeme.specs.Character.Surrogates.{paired}
use Rattle.json_text.proofs.StringEnds.{at_plain, past-end}
use Rattle.json_text.proofs.strings.plain_end.Goals as goal

pub loop-i-preserved : goal.loop-i-preserved
loop-i-preserved c = at_plain paired c.args.s.now c.loop-i.i (omega arith) _ c.class_by.ensures.lead (omega arith) ∙ c.loop-i.invariant

pub returns : goal.returns
returns c = past-end paired c.args.s.now c.loop-i.i (omega arith) ∙ c.loop-i.invariant
