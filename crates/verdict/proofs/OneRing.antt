-- Stage B finds the same in each file by the rules on polygons before W13 (`zone/proofs/Single`), and the other stages do not ask them; so the lists of broken
-- rules are equal, and with them all that is told of their first.
use mathlib.Core.List.{List, [], ◌∷◌, ◌++◌, map}
use mathlib.Core.Path.{◌≡◌, refl, sym, ap, subst}
use Prim.Native.Nat.{ℕ}
use native.Mathlib.Omega.{arith}
use lib.Dec.{leb, ltb}
use lib.ListN.{length, drop}
use Rattle.notation.specs.Choice.{◌⇒◌else◌, ◌and◌}
use Rattle.word.specs.declared.Parts.{Parts}
use Rattle.word.specs.Form.{written_form, word_size}
use Rattle.word.specs.Word.{no_parts, word_of}
use Rattle.schema.specs.Shape.{Table, file_shape}
use Rattle.schema.specs.Tables.{table_at}
use Rattle.rings.specs.Rings.{coordinates_found}
use Rattle.rings.specs.OneRing.{coordinates_of_one}
use Rattle.document.specs.Spans.{record_span}
use Rattle.fault.specs.Outcome.{file_count, fault_parts, Outcome}
use Rattle.clean.specs.Clean.{records_in}
use Rattle.clean.specs.Show.{of_span, of_clean, refused, shown_by, shown_of}
use Rattle.quote.specs.Quote as quote
use Rattle.quote.specs.Quote.{short, clean_quote, quote_of}
use Rattle.zone.specs.Single.{WithoutHoles, clean_of_one}
use Rattle.zone.proofs.Single.{faults-one, single}
use Rattle.cross.specs.Stage.{Feeds, bytes_of}
use Rattle.verdict.specs.Verdict.{faults_b_by, stage_a, stage_b_by, stage_c, or_else, broken_rules_by, first, verdict_of, said, accepts, verdict_number, buffer_of}
use Rattle.verdict.specs.OneRing.{verdict_of_one, OneRing}
use Rattle.verdict.proofs.Every.{every_same}

module _ (table : ℕ) where
  abbrev t : Table
  t = table_at table

  file-same : (file : ℕ) (s : List ℕ) → (file ≡ 6 → WithoutHoles t s) → faults_b_by coordinates_found t file s ≡ faults_b_by coordinates_of_one t file s
  file-same file [] one = refl
  file-same file (b ∷ s) one = faults-one table file (b ∷ s) one

  module _ (s : Feeds) (one : WithoutHoles t (bytes_of s 6)) where
    zones-one : (file : ℕ) → file ≡ 6 → WithoutHoles t (bytes_of s file)
    zones-one file e = subst (λ (k : ℕ). WithoutHoles t (bytes_of s k)) (sym e) one

    stage_same : stage_b_by coordinates_found t s ≡ stage_b_by coordinates_of_one t s
    unfolding stage_b_by
    stage_same = every_same _ _ (λ file h i. ap (map (fault_parts file)) (file-same file (bytes_of s file) (zones-one file)))

    verdict-same : verdict_of t s ≡ verdict_of_one t s
    unfolding verdict_of broken_rules_by
    verdict-same = ap (λ (l : List Parts). first (or_else (stage_a s) (or_else l (stage_c t s)))) stage_same

    module _ (b : List ℕ) where
      number_same : verdict_number t s b ≡ (ltb (length b) word_size ⇒ 2 else accepts (verdict_of_one t s) ⇒ 0 else 1)
      unfolding verdict_number
      number_same = ap (λ (v : Outcome). ltb (length b) word_size ⇒ 2 else accepts v ⇒ 0 else 1) verdict-same

      buffer-same : buffer_of t s b ≡ (ltb (length b) word_size ⇒ b else word_of written_form (said (verdict_of_one t s)) ++ drop word_size b)
      unfolding buffer_of
      buffer-same = ap (λ (v : Outcome). ltb (length b) word_size ⇒ b else word_of written_form (said v) ++ drop word_size b) verdict-same

  shown-same : (file n : ℕ) (s : List ℕ) → (file ≡ 6 → WithoutHoles t s)
      → shown_of t file n s
      ≡ (leb 1 file and leb file file_count ⇒ of_clean (clean_of_one t file s) (of_span (record_span (file_shape t file) s n)) else refused 10 no_parts)
  unfolding shown_by
  shown-same file n s one =
      ap (λ (c : Outcome). leb 1 file and leb file file_count ⇒ of_clean c (of_span (record_span (file_shape t file) s n)) else refused 10 no_parts)
      ((single table).clean file s one)

  quoted-same : (s id : List ℕ) (seconds metres : ℕ)
      → quote_of t s id seconds metres
      ≡ (short seconds metres ⇒ quote.of_clean (clean_of_one t 5 s) (clean_quote (records_in (file_shape t 5) s) id seconds metres) else quote.refused 4)
  unfolding quote_of
  quoted-same s id seconds metres =
      ap (λ (c : Outcome). short seconds metres ⇒ quote.of_clean c (clean_quote (records_in (file_shape t 5) s) id seconds metres) else quote.refused 4)
      ((single table).clean 5 s (λ e. absurd (omega arith)))

pub one-ring : (table : ℕ) → OneRing (table_at table)
one-ring table =
    record {
      verdict = verdict-same table;
      number = λ s b one. number_same table s one b;
      buffer = λ s b one. buffer-same table s one b;
      ruling = (single table).answer;
      shown = shown-same table;
      quoted = quoted-same table;
    }
