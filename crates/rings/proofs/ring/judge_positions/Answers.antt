-- The counts, the positions and the area, each with its own faults.
use mathlib.Core.Path.{ap, ap₂, ◌∙◌}
use Rattle.fault.specs.Fault.{lesser}
use Rattle.rings.proofs.Areas.{ring-judged}
use Rattle.rings.proofs.ring.judge_positions.Goals as goal
use Rattle.std.specs.Prelude.{Option}
use Rattle.fault.specs.declared.Fault.{Fault}

pub judge_area-requires : goal.judge_area-requires
judge_area-requires c = c.read_ring-r.ensures.0.sized.summed

pub returns : goal.returns
returns c =
    let r = c.read_ring-r in (
      record { items = r.ensures.0.within; positions = r.ensures.0.within },
      λ w.
          ring-judged (r.ensures.1 w) _
          (c.lesser-least.ensures
          ∙ ap₂ lesser (c.lesser-2.ensures ∙ ap (λ (z : Option Fault). lesser z r.result.least) (c.lesser.ensures
          ∙ ap₂ lesser c.unless-few.ensures c.unless-many.ensures)) c.judge_area.ensures),
    )
