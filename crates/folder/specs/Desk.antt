-- The desk program: document 01, "Run". Its answer on the files that stand in a buffer: none where one of them can't be read, else too large or what the
-- verdict's word says, by the table of version 2.3.
use Rattle.std.specs.Prelude.{List, ℕ, zero, suc, ◌+◌, Option, None, Some, Result, Ok, Err}
use Rattle.word.specs.declared.Parts.{Parts}
use Rattle.schema.specs.Table23.{table23}
use Rattle.verdict.specs.Verdict.{said, verdict_of}
use Rattle.folder.specs.declared.Refusal.{Refusal}
use Rattle.folder.specs.declared.Refusal.TheVariants.{Unread, TooLarge}
use Rattle.folder.specs.Places.{set_in}

-- the most bytes of a set
abbrev pub most : ℕ
most = 65536

-- the room that they are read into: a byte more, by which a set that is too large is told
abbrev pub room : ℕ
room = most + 1

-- what the word of the verdict on these files says
abbrev pub said_of : (bytes places : List ℕ) → Parts
said_of bytes places = said (verdict_of table23 (set_in bytes places))

-- The answer by what the last call on a file came to: none where it failed, the verdict where it was the last file's end, and where it brought bytes the
-- buffer is full.
abbrev pub answer_of : Option ℕ → (bytes places : List ℕ) → Result Parts Refusal
answer_of None bytes places = Err Unread
answer_of (Some zero) bytes places = Ok (said_of bytes places)
answer_of (Some (suc n)) bytes places = Err TooLarge
