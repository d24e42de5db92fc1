-- Faults whose numbers of a record and of a sub fit in sixteen bits, as a word's parts have them.
use Rattle.std.specs.Prelude.{◌≡◌, ◌<◌, Option, Some}
use Rattle.fault.specs.declared.Fault.{Fault}

-- the fault, where there is one, is such
abbrev pub Narrow : Option Fault → Type 0
Narrow x = (f : Fault) → x ≡ Some f → (f.«record» < 65_536) × (f.sub < 65_536)
