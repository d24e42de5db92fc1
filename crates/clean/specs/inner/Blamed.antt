-- The fault of a repeated id, as the search for one tells it.
use Rattle.std.specs.Prelude.{ℕ, eqb, Option, None, Some}
use Rattle.notation.specs.Choice.{◌⇒◌else◌}
use Rattle.word.specs.Kinds.{id_twice}
use Rattle.fault.specs.Fault.{fault}
use Rattle.fault.specs.declared.Fault.{Fault}

-- the fault of an id used before, by the record's number; none where that is 0
abbrev pub blamed : (field number : ℕ) → Option Fault
blamed field number = eqb number 0 ⇒ None else Some (fault number field 0 id_twice)
