-- The polygons, judged from number 1 on, and their count at number 0.
use mathlib.Core.Bool.{Bool}
use mathlib.Core.Path.{ap, ◌∙◌}
use Rattle.word.specs.Kinds.{too_many}
use Rattle.fault.specs.Fault.{lesser}
use Rattle.scalar.specs.Scalars.{unless}
use Rattle.rings.specs.Rings.{found_at}
use Rattle.rings.specs.inner.Parts.{least_found}
use Rattle.rings.proofs.Zones.{coordinates-found}
use Rattle.rings.proofs.zone.judge_coordinates.Goals as goal
use Rattle.std.specs.Prelude.{Option}
use Rattle.fault.specs.declared.Fault.{Fault}

pub returns : goal.returns
returns c x is w e =
    let r = c.judge_polygons-polygons in
    c.lesser.ensures
    ∙ ap (λ (z : Option Fault). lesser z r.result.least) (c.unless.ensures ∙ ap (λ (b : Bool). least_found c.args.field (found_at 0 (unless b too_many))) c.are_zone_counts.ensures)
    ∙ coordinates-found _ r.result r.ensures x is w e
