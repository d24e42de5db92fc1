-- What a quote needs of a plan's bytes, and stages A and B ensure: a value is whole, nothing is found in it against its shape, and of segments there
-- are no more than a plan may have.
use mathlib.Core.List.{List, [], Memᴰ}
use Rattle.std.specs.Prelude.{◌≡◌, ℕ, ◌≤◌, ◌<◌, length}
use Rattle.limits.specs.Ceilings.{segments}
use Rattle.walk.specs.declared.Item.{Item}
use Rattle.walk.specs.Walk.{part, items_of}
use Rattle.walk.specs.Part.{Whole, part_tree}
use Rattle.walk.specs.inner.Along.{AlongItems}
use Rattle.schema.specs.Shape as shape
use Rattle.schema.specs.Shape.{Shape, Sort}
use Rattle.schema.specs.Table23 as table
use Rattle.schema.specs.Pick.{pick}
use Rattle.fault.specs.declared.Place.{Place}
use Rattle.judge.specs.Faults.{faults}

pub record Clear (σ : Shape) (p : List ℕ) : Type 0 where
  pub whole : Whole p (part_tree p)
  pub place : Place
  pub field : ℕ
  pub clear : faults σ place field (pick σ (part_tree p)) ≡ []

-- a single value of a sort; a plan; a segment, whatever its fields' numbers
abbrev pub ClearValue : Sort → List ℕ → Type 0
ClearValue sort = Clear (shape.scalar sort)

abbrev pub ClearPlan : List ℕ → Type 0
ClearPlan = Clear table.plan

abbrev pub ClearSegment : List ℕ → Type 0
ClearSegment p = (f : ℕ) × Clear (table.segment f) p

-- an array of segments, or no bytes
pub record ClearSegments (p : List ℕ) : Type 0 where
  pub along : 0 < length p → AlongItems p 1
  pub few : length (items_of p) ≤ segments
  pub each : (m : Item) → Memᴰ m (items_of p) → ClearSegment (part p m.value m.value_end)
