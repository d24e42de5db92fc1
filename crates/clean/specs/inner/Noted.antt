-- What a check leaves behind of a file's records.
use Rattle.std.specs.Prelude.{true, List, ◌≡◌, ℕ, ◌<◌, length}
use Rattle.schema.specs.Records.{has_ids}
use Rattle.document.specs.inner.Spans.{RecordsFrom}
use Rattle.ids.specs.inner.Notes.{Indexed}

-- the records of a file of a sheet that is there, where they have ids, are noted, by the rest p of the file from its records on
abbrev pub RecordsNoted : (sheet : ℕ) (s notes : List ℕ) → Type 0
RecordsNoted sheet s notes = 0 < length s → has_ids sheet ≡ true → (p : List ℕ) → RecordsFrom sheet s p → Indexed sheet p notes
