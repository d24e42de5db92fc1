-- The word of a verdict says the verdict: every part is within its width and the rule of words is kept, so that reading the word gives the parts back.
use mathlib.Core.Bool.{true}
use mathlib.Core.List.{List, [], ◌∷◌}
use mathlib.Core.Path.{◌≡◌, refl, sym}
use Prim.Native.Nat.{ℕ, ◌≤◌}
use native.Mathlib.Omega.{arith}
use lib.ListN.{length, take}
use Rattle.limits.specs.Ceilings.{file_bytes}
use Rattle.word.specs.declared.Parts.{Parts}
use Rattle.word.specs.Form.{written_form, word_size}
use Rattle.word.specs.Word.{Fits, keeps, read_word}
use Rattle.word.proofs.Keeps.{by_offset, by_place}
use Rattle.word.proofs.Laws.{written-full, word_read}
use Rattle.json_text.specs.Text.{syntax_of}
use Rattle.schema.specs.Shape.{Table}
use Rattle.schema.specs.Tables.{table_at}
use Rattle.fault.specs.declared.Fault.{Fault}
use Rattle.fault.specs.Fault.{least}
use Rattle.fault.specs.Outcome.{file_count, syntax_parts, fault_parts, outcome_of, or_next, Outcome, unbroken}
use Rattle.clean.specs.Clean.{syntax_outcome}
use Rattle.clean.proofs.Judged.{offset_fits}
use Rattle.cross.specs.Cross.{cross_faults}
use Rattle.cross.specs.inner.Stage.{first_of, first_c}
use Rattle.cross.specs.Stage.{Feeds, bytes_of, picked}
use Rattle.verdict.specs.Verdict.{verdict_of, said, buffer_of}
use Rattle.verdict.specs.declared.stages.Stage.TheVariants as stage
use Rattle.verdict.specs.inner.Stages.{faults_b, outcome_a, first_in, staged}
use Rattle.verdict.proofs.Passed.{syntax_kind}
use Rattle.cross.proofs.FromFile.{first-all}
use Rattle.verdict.proofs.ByFile.{verdict-staged}
use Rattle.verdict.proofs.StagesPassed.{all-through}
use Rattle.verdict.proofs.Answers.{word_room}
use Rattle.verdict.proofs.InWord.{InWord, faults_fit, cross_fits}
use Rattle.std.specs.Prelude.{Result, Option, None, Some, Err, Ok}
use Rattle.lexeme.specs.declared.SyntaxError.{SyntaxError}

-- parts that make a word
record Said (p : Parts) : Type 0 where
  fits : Fits written_form p
  kept : keeps written_form p ≡ true

said-clean : Said (said unbroken)
unfolding keeps
said-clean =
    record {
      fits = (omega arith, (omega arith, (omega arith, (omega arith, (omega arith, (omega arith, (omega arith, tt)))))));
      kept = refl;
    }

module _ (file : ℕ) (h : 1 ≤ file) (i : file ≤ file_count) where
  said_offset : (k o : ℕ) → 1 ≤ k → k ≤ 4 → o ≤ file_bytes → Said (syntax_parts file k o)
  said_offset k o a b c =
      record {
        fits = (omega arith, (omega arith, (omega arith, (omega arith, (omega arith, (omega arith, (omega arith, tt)))))));
        kept = sym (by_offset written_form _ (λ z. omega arith) (λ z. omega arith) i (omega arith) b);
      }

  said-place : (f : Fault) → InWord f → Said (fault_parts file f)
  said-place f w =
      record {
        fits = (omega arith, (omega arith, (omega arith, (omega arith, (omega arith, (omega arith, (omega arith, tt)))))));
        kept = sym (by_place written_form (fault_parts file f) (λ z. omega arith) (λ z. omega arith) i w.field (omega arith));
      }

-- what is found, one after another
abbrev Sayable : Outcome → Type 0
Sayable x = Said (said x)

sayable_next : (x y : Outcome) → Sayable x → (x ≡ unbroken → Sayable y) → Sayable (or_next x y)
sayable_next (Ok _) y h k = k refl
sayable_next (Err p) y h k = h

module _ (file : ℕ) (h : 1 ≤ file) (i : file ≤ file_count) where
  sayable_syntax : (s : List ℕ) (x : Result (Unit {0}) SyntaxError) → syntax_of s ≡ x → Sayable (syntax_outcome file x)
  sayable_syntax s (Ok _) e = said-clean
  sayable_syntax s (Err w) e = let b = syntax_kind s w.kind w.offset e in said_offset file h i w.kind w.offset b.0 b.1 (offset_fits s w.kind w.offset e)

  sayable_read : (s : List ℕ) → Sayable (outcome_a file s)
  sayable_read [] = said-clean
  sayable_read (b ∷ s) = sayable_syntax (b ∷ s) (syntax_of (b ∷ s)) refl

  sayable_least : (x : Option Fault) → ((f : Fault) → x ≡ Some f → InWord f) → Sayable (outcome_of file x)
  sayable_least None w = said-clean
  sayable_least (Some f) w = said-place file h i f (w f refl)

sayable_faults : (faults : ℕ → List Fault) → ((file : ℕ) → 1 ≤ file → file ≤ file_count → (f : Fault) → least (faults file) ≡ Some f → InWord f)
    → Sayable (first_of (λ file. outcome_of file (least (faults file))))
sayable_faults faults w = first-all Sayable said-clean _ (λ file h i. sayable_least file h i (least (faults file)) (w file h i))

module _ (table : ℕ) (s : Feeds) where
  abbrev t : Table
  t = table_at table

  sayable-A : Sayable (first_in t stage.A s)
  unfolding first_in
  sayable-A = first-all Sayable said-clean _ (λ file h i. sayable_read file h i (bytes_of s file))

  sayable-B : Sayable (first_in t stage.B s)
  unfolding first_in
  sayable-B = sayable_faults (λ file. faults_b t file (bytes_of s file)) (λ file h i. faults_fit table file (bytes_of s file))

  sayable-C : first_in t stage.A s ≡ unbroken → first_in t stage.B s ≡ unbroken → Sayable (first_c t (picked t s))
  unfolding first_c
  sayable-C a b = sayable_faults (cross_faults t (picked t s)) (cross_fits table s (all-through table s a b))

  verdict-said : Said (said (verdict_of t s))
  unfolding staged
  verdict-said =
      rw (verdict-staged t s)
      (sayable_next (first_in t stage.A s) _ sayable-A (λ a. sayable_next (first_in t stage.B s) _ sayable-B (λ b. sayable-C a b)))

  -- what the code that packs the word needs
  pub verdict-fits : Fits written_form (said (verdict_of t s))
  verdict-fits = verdict-said.fits

  pub verdict-kept : keeps written_form (said (verdict_of t s)) ≡ true
  verdict-kept = verdict-said.kept

  -- the word in the buffer reads as the verdict
  pub verdict-read : (b : List ℕ) → word_size ≤ length b → read_word (take word_size (buffer_of t s b)) ≡ record { number = 0; parts = said (verdict_of t s) }
  unfolding read_word
  verdict-read b room =
      word_read written_form written-full (said (verdict_of t s)) (take word_size (buffer_of t s b))
      (record { fits = verdict-fits; kept = verdict-kept; packs = sym (word_room t s b room) })
