-- What is no array is of the wrong type; an array is judged by its items and their count.
use mathlib.Core.Bool.{Bool}
use mathlib.Core.Path.{sym, ap, ◌∙◌}
use native.Mathlib.Omega.{arith}
use Rattle.word.specs.Kinds.{bad_ring}
use Rattle.fault.specs.Fault.{lesser}
use Rattle.scalar.specs.Scalars.{unless}
use Rattle.rings.specs.Rings.{found_at}
use Rattle.rings.specs.inner.Parts.{least_found}
use Rattle.rings.proofs.Zones.{polygon-array, polygon-other}
use Rattle.rings.proofs.zone.judge_polygon.Goals as goal
use Rattle.std.specs.Prelude.{Option}
use Rattle.fault.specs.declared.Fault.{Fault}

pub returns-then-not-is_array : goal.returns-then-not-is_array
returns-then-not-is_array c = (record { items = omega arith; positions = omega arith }, λ x w. polygon-other w _ _ _ (sym c.is_array.ensures ∙ c.if-not-is_array.true) c.broken.ensures)

pub returns : goal.returns
returns c =
    let r = c.judge_rings-rings in let a = c.args in
    let counted = c.unless.ensures ∙ ap (λ (t : Bool). least_found a.field (found_at a.n (unless t bad_ring))) c.is_ring_count.ensures in (
      record { items = r.ensures.0.count; positions = r.ensures.0.positions },
      λ x w.
          polygon-array w _ _ _ (sym c.is_array.ensures ∙ c.if-not-is_array.false) r.ensures.1
          (c.lesser.ensures ∙ ap (λ (z : Option Fault). lesser z r.result.least) counted),
    )
