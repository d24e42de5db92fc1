-- The number and the values are those of the answer, and the answer is the definition's.
use mathlib.Core.Path.{◌∙◌}
use mir.Syntax.{w64}
use mir.ValLaws.{to_z-of_z}
use Rattle.schema.proofs.SheetShapes.{first-table}
use Rattle.skaveldro.proofs.Told.{rule-number, rule-parts}
use Rattle.skaveldro.specs.Answers.{zone_answer}
use Rattle.skaveldro.proofs.skaveldro_zone_rule.Goals as goal

pub returns-clause-value : goal.returns-clause-value
unfolding zone_answer
returns-clause-value c =
    let asked = rw (to_z-of_z w64 c.args.lon c.ranges.lon, to_z-of_z w64 c.args.lat c.ranges.lat) at c.zone_rule-r.ensures in
    rw (← first-table, ← asked, ← (c.number_of.ensures ∙ rule-number c.zone_rule-r.result), ← (c.parts_of.ensures ∙ rule-parts c.zone_rule-r.result), ← c.rest.ensures) c.give.ensures.value

pub returns-clause-answer_after : goal.returns-clause-answer_after
unfolding zone_answer
returns-clause-answer_after c =
    let asked = rw (to_z-of_z w64 c.args.lon c.ranges.lon, to_z-of_z w64 c.args.lat c.ranges.lat) at c.zone_rule-r.ensures in
    rw (← first-table, ← asked, ← (c.number_of.ensures ∙ rule-number c.zone_rule-r.result), ← (c.parts_of.ensures ∙ rule-parts c.zone_rule-r.result), ← c.rest.ensures) c.give.ensures.buffer_after
