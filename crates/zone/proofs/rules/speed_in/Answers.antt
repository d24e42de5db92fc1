-- A number is a speed.
use mathlib.Core.Path.{ap, ◌∙◌}
use Rattle.std.specs.Prelude.{Some}
use Rattle.zone.proofs.Ways.{speed_missing, speed_some}
use Rattle.zone.proofs.rules.speed_in.Goals as goal

pub returns-then-code_of-ne-NUMBER : goal.returns-then-code_of-ne-NUMBER
returns-then-code_of-ne-NUMBER c = speed_missing _ _ c.code_of.ensures c.if-code_of-ne-NUMBER.true

pub returns : goal.returns
returns c = ap Some c.integer_in.ensures ∙ speed_some _ _ c.code_of.ensures c.if-code_of-ne-NUMBER.false
