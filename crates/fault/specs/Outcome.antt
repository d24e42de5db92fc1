-- What is told of a file, or of a set of files: that no rule is broken, or the first that is, as the parts of a word. Document 01, "The verdict word".
use Rattle.std.specs.Prelude.{ℕ, Option, None, Some, Result, Ok, Err}
use Rattle.word.specs.declared.Parts.{Parts}
use Rattle.word.specs.Form.{written_form}
use Rattle.fault.specs.declared.Fault.{Fault}

abbrev pub Outcome : Type 0
Outcome = Result (Unit {0}) Parts

abbrev pub unbroken : Outcome
unbroken = Ok tt

-- how many files a set has: the greatest number that a word has for one
abbrev pub file_count : ℕ
file_count = written_form.files

-- the parts of a word for what stage A finds in a file, and for a fault of a later stage
abbrev pub syntax_parts : (file kind offset : ℕ) → Parts
syntax_parts file kind offset = record { file = file; kind = kind; field = 0; «record» = 0; sub = 0; offset = offset }

abbrev pub fault_parts : ℕ → Fault → Parts
fault_parts file f = record { file = file; kind = f.kind; field = f.field; «record» = f.«record»; sub = f.sub; offset = 0 }

-- of a file, by the first of its faults
abbrev pub outcome_of : ℕ → Option Fault → Outcome
outcome_of file None = unbroken
outcome_of file (Some f) = Err (fault_parts file f)

-- what is told, or else what is told next
abbrev pub or_next : Outcome → Outcome → Outcome
or_next (Ok _) next = next
or_next (Err p) next = Err p
