-- The refusals of document 01's table of questions: the number of each, and the parts of a word that it gives, none but where a file is not clean.
use Rattle.std.specs.Prelude.{ℕ, Result, Ok, Err}
use Rattle.word.specs.declared.Parts.{Parts}
use Rattle.word.specs.declared.refusal.Refusal.{Refusal}
use Rattle.word.specs.declared.refusal.Refusal.TheVariants.{NoWord, TooLong, NotClean, NoPlan, OffMap, NoRule, NoFile, NoRecord}

abbrev pub no_parts : Parts
no_parts = record { file = 0; kind = 0; field = 0; «record» = 0; sub = 0; offset = 0 }

abbrev pub refusal_number : Refusal → ℕ
refusal_number NoWord = 3
refusal_number TooLong = 4
refusal_number (NotClean p) = 5
refusal_number NoPlan = 6
refusal_number OffMap = 8
refusal_number NoRule = 9
refusal_number NoFile = 10
refusal_number NoRecord = 10

abbrev pub refusal_parts : Refusal → Parts
refusal_parts (NotClean p) = p
refusal_parts r = no_parts

-- the number of an answer, which is 0 where it is no refusal; and the parts that a refusal gives
abbrev pub number_of : {A : Type 0} → Result A Refusal → ℕ
number_of (Ok x) = 0
number_of (Err r) = refusal_number r

abbrev pub parts_of : {A : Type 0} → Result A Refusal → Parts
parts_of (Ok x) = no_parts
parts_of (Err r) = refusal_parts r
