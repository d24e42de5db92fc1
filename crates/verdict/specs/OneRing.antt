-- What document 02's request W13 leaves as it was: where no polygon has more than one ring, the answers are those of before. `proofs/OneRing` shows it.
use Rattle.std.specs.Prelude.{List, ◌++◌, ◌≡◌, ℕ, leb, ltb, length, drop}
use Rattle.notation.specs.Choice.{◌⇒◌else◌, ◌and◌}
use Rattle.word.specs.Form.{written_form, word_size}
use Rattle.word.specs.Word.{no_parts, word_of}
use Rattle.schema.specs.Shape.{Table, file_shape}
use Rattle.geometry.specs.Ring.{Point}
use Rattle.rings.specs.OneRing.{coordinates_of_one}
use Rattle.document.specs.Spans.{record_span}
use Rattle.fault.specs.Outcome.{file_count, Outcome}
use Rattle.clean.specs.Clean.{records_in}
use Rattle.clean.specs.Show.{of_span, of_clean, refused, shown_of}
use Rattle.quote.specs.Quote as quote
use Rattle.quote.specs.Quote.{short, clean_quote, quote_of}
use Rattle.zone.specs.Answer.{ruling_of}
use Rattle.zone.specs.Single.{WithoutHoles, clean_of_one, ruling_of_one}
use Rattle.cross.specs.Stage.{Feeds, bytes_of}
use Rattle.verdict.specs.Verdict.{broken_rules_by, first, verdict_of, said, accepts, verdict_number, buffer_of}

-- the verdict before W13: the first broken rule of a set, where polygons of one ring are asked for
abbrev pub verdict_of_one : Table → Feeds → Outcome
verdict_of_one t s = first (broken_rules_by coordinates_of_one t s)

pub record OneRing (t : Table) : Type 0 where
  -- the verdict, and so the number and the buffer of its question
  pub verdict : (s : Feeds) → WithoutHoles t (bytes_of s 6) → verdict_of t s ≡ verdict_of_one t s
  pub number : (s : Feeds) (buffer : List ℕ) → WithoutHoles t (bytes_of s 6)
      → verdict_number t s buffer ≡ (ltb (length buffer) word_size ⇒ 2 else accepts (verdict_of_one t s) ⇒ 0 else 1)
  pub buffer : (s : Feeds) (buffer : List ℕ) → WithoutHoles t (bytes_of s 6)
      → buffer_of t s buffer ≡ (ltb (length buffer) word_size ⇒ buffer else word_of written_form (said (verdict_of_one t s)) ++ drop word_size buffer)
  -- the zone rule, number 5 included
  pub ruling : (s : List ℕ) (q : Point) (type : List ℕ) (moment : ℕ) → WithoutHoles t s → ruling_of t s q type moment ≡ ruling_of_one t s q type moment
  -- a record that is shown, and number 5; only file 6 has polygons
  pub shown : (file n : ℕ) (s : List ℕ) → (file ≡ 6 → WithoutHoles t s)
      → shown_of t file n s ≡ (leb 1 file and leb file file_count ⇒ of_clean (clean_of_one t file s) (of_span (record_span (file_shape t file) s n)) else refused 10 no_parts)
  -- a quote, number 5 included, of any bytes: file 5 has no polygons
  pub quoted : (s id : List ℕ) (seconds metres : ℕ)
      → quote_of t s id seconds metres
      ≡ (short seconds metres ⇒ quote.of_clean (clean_of_one t 5 s) (clean_quote (records_in (file_shape t 5) s) id seconds metres) else quote.refused 4)
