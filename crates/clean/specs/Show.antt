-- The question "show record n of file f": document 01's table. A refusal shows an empty part.
use Rattle.std.specs.Prelude.{List, ℕ, leb, Err, Ok, Option, Some, None, Result}
use Rattle.notation.specs.Choice.{◌⇒◌else◌, ◌and◌}
use Rattle.word.specs.declared.Parts.{Parts}
use Rattle.word.specs.declared.refusal.Refusal.{Refusal}
use Rattle.word.specs.Refusals.{no_parts, refusal_number, refusal_parts}
use Rattle.schema.specs.Shape.{Shape, Table, file_shape}
use Rattle.document.specs.declared.Span.{Span}
use Rattle.document.specs.Spans.{record_span}
use Rattle.fault.specs.Outcome.{file_count, Outcome}
use Rattle.clean.specs.Clean.{clean_in}

-- An answer's number, the parts of a word, and the part of the file's bytes that it shows. Parts that are not given are zero.
pub record Answer : Type 0 where
  pub number : ℕ
  pub parts : Parts
  pub from : ℕ
  pub upto : ℕ

abbrev pub refused : ℕ → Parts → Answer
refused number p = record { number = number; parts = p; from = 0; upto = 0 }

-- a record, from one place up to another
abbrev pub shown : (from upto : ℕ) → Answer
shown from upto = record { number = 0; parts = no_parts; from = from; upto = upto }

abbrev pub answer : Result Span Refusal → Answer
answer (Ok p) = shown p.from p.upto
answer (Err r) = refused (refusal_number r) (refusal_parts r)

-- of a clean file: no such record, or where it stands
abbrev pub of_span : Option Span → Answer
of_span None = refused 10 no_parts
of_span (Some p) = shown p.from p.upto

abbrev pub of_clean : Outcome → Answer → Answer
of_clean (Ok _) next = next
of_clean (Err p) next = refused 5 p

-- record n of a file of this shape and number, of its bytes s; and by a table
unfoldable pub shown_by : Shape → (file n : ℕ) → List ℕ → Answer
shown_by σ file n s =
    leb 1 file and leb file file_count ⇒
    of_clean (clean_in σ file s) (of_span (record_span σ s n))
    else refused 10 no_parts

abbrev pub shown_of : Table → (file n : ℕ) → List ℕ → Answer
shown_of t file n s = shown_by (file_shape t file) file n s
