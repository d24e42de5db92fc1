-- The records of a file as the bytes that a walk goes along, and the first of them that repeats an id.
use Rattle.std.specs.Prelude.{List, ℕ, ◌≤◌, ◌<◌, length, Option}
use Rattle.limits.specs.Ceilings.{file_bytes, records}
use Rattle.notation.specs.Choice.{◌⇒◌else◌}
use Rattle.walk.specs.Walk.{items_of}
use Rattle.walk.specs.inner.Along.{AlongItems}
use Rattle.schema.specs.Records.{has_ids}
use Rattle.ids.specs.inner.Ids.{id_field, record_bytes, first_repeat}
use Rattle.clean.specs.inner.Blamed.{blamed}
use Rattle.cross.specs.inner.Judged.{Objects}
use Rattle.fault.specs.declared.Fault.{Fault}

-- an array of records, with whatever follows it, that is within its ceilings; or no bytes
pub record Recorded (p : List ℕ) : Type 0 where
  pub short : length p ≤ file_bytes
  pub objects : Objects p
  pub few : length (items_of p) ≤ records
  pub along : (0 < length p) → AlongItems p 1

-- the number of the first record whose id one before it has, or 0, also where records have no ids
unfoldable pub repeat_of : (sheet : ℕ) → List ℕ → ℕ
repeat_of sheet p = has_ids sheet ⇒ first_repeat sheet (record_bytes p) else 0

unfoldable pub ids_least : (sheet : ℕ) → List ℕ → Option Fault
ids_least sheet p = blamed (id_field sheet) (repeat_of sheet p)
