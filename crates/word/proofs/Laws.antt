-- Reading finds a word's parts, and nothing else, in any form whose fields fill its bytes: packing and unpacking by a layout lose
-- nothing either way, and the rule is tested on the parts.
use mathlib.Core.Bool.{Bool, true, false}
use mathlib.Core.List.{List, [], ◌∷◌}
use mathlib.Core.Path.{◌≡◌, refl, ap, ◌∙◌}
use Prim.Native.Nat.{ℕ, zero, suc, ◌*◌}
use native.Mathlib.Omega.{arith}
use lib.Dec.{eqb}
use lib.ListN.{length, get_or}
use borrow.Author.Tests.{eqb-true, eq-eqb}
use Rattle.notation.specs.Choice.{◌⇒◌else◌, ◌and◌}
use Rattle.notation.proofs.Booleans.{and_both}
use Rattle.radix.specs.Fields.{bases, bits, bytes_number, unpacked, Bytes}
use Rattle.radix.proofs.Packing.{digits_fit, digits-length, packed-length, unpacked-packed, packed-unpacked}
use Rattle.word.specs.declared.Parts.{Parts}
use Rattle.word.specs.declared.refusal.Refusal.TheVariants.{NoWord}
use Rattle.std.specs.Prelude.{Ok, Err}
use Rattle.word.specs.Form.{Form, form1, written_form}
use Rattle.word.specs.Word.{values_of, parts_of, keeps, word_of, IsWord, Answer, answer, judged, read}

-- a form's seven fields fill its bytes
pub record Full (φ : Form) : Type 0 where
  pub seven : length φ.widths ≡ 7
  pub filled : bits φ.widths ≡ φ.size * 8

pub full1 : Full form1
unfolding bits
full1 = record { seven = refl; filled = refl }

-- the form in which words are written, and how long a word is
pub written-full : Full written_form
written-full = full1

pub word-length : (φ : Form) → Full φ → (p : Parts) → length (word_of φ p) ≡ φ.size
unfolding word_of
word-length φ full p = packed-length φ.widths φ.size full.filled (values_of φ p)

chosen : (t : Bool) (r : Answer) (p : Parts) → (t ⇒ r else answer (Err NoWord)) ≡ answer (Ok p) → (t ≡ true) × (r ≡ answer (Ok p))
chosen true r p e = (refl, e)
chosen false r p e = let z : ◌≡◌ {A = ℕ} 3 0 = ap (λ (a : Answer). a.number) e in absurd (omega arith)

-- a list of n elements, element by element
table : ℕ → (ℕ → ℕ) → List ℕ
table zero f = []
table (suc n) f = f 0 ∷ table n (λ i. f (suc i))

tabled : (n : ℕ) (v : List ℕ) → length v ≡ n → table n (λ i. get_or v i 0) ≡ v
unfolding table
tabled zero [] e = refl
tabled zero (a ∷ v) e = absurd (omega arith)
tabled (suc n) [] e = absurd (omega arith)
tabled (suc n) (a ∷ v) e = ap (λ (l : List ℕ). a ∷ l) (tabled n v (omega arith))

-- values that begin with the form's number are those of their parts
values-parts : (φ : Form) (v : List ℕ) → length v ≡ 7 → get_or v 0 0 ≡ φ.number → values_of φ (parts_of v) ≡ v
unfolding table
values-parts φ v e f = rw (← f) (tabled 7 v e)

bases-length : (ws : List ℕ) → length (bases ws) ≡ length ws
bases-length [] = refl
bases-length (w ∷ ws) = ap suc (bases-length ws)

unpacked-length : (ws s : List ℕ) → length (unpacked ws s) ≡ length ws
unfolding unpacked
unpacked-length ws s = digits-length (bases ws) _ ∙ bases-length ws

module _ (φ : Form) (full : Full φ) where
  -- a word reads back as the parts that it was packed from
  pub word_read : (p : Parts) (s : List ℕ) → IsWord φ p s → read φ s ≡ answer (Ok p)
  unfolding read judged word_of
  word_read p s w =
      rw (
        ← w.packs,
        packed-length φ.widths φ.size full.filled (values_of φ p),
        eq-eqb φ.size φ.size refl,
        unpacked-packed φ.widths φ.size full.filled (values_of φ p) w.fits,
        eq-eqb φ.number φ.number refl,
        w.kept,
      )

  -- bytes that read as parts are their word: packed again, the parts give the same bytes
  pub read_word_lem : (p : Parts) (s : List ℕ) → Bytes s → read φ s ≡ answer (Ok p) → IsWord φ p s
  unfolding read judged word_of
  read_word_lem p s bytes e =
      let v : List ℕ = unpacked φ.widths s in
      let sized = chosen (eqb (length s) φ.size) (judged φ v) p e in
      let word = chosen (eqb (get_or v 0 0) φ.number and keeps φ (parts_of v)) (answer (Ok (parts_of v))) p sized.1 in
      let tests = and_both (eqb (get_or v 0 0) φ.number) (keeps φ (parts_of v)) word.0 in
      let same : parts_of v ≡ p = ap (λ (a : Answer). a.parts) word.1 in
      let values = values-parts φ v (unpacked-length φ.widths s ∙ full.seven) (eqb-true _ _ tests.0) in
      record {
        fits = rw (← same, values) (unfold unpacked in digits_fit φ.widths (bytes_number s));
        kept = rw (← same) tests.1;
        packs = rw (← same, values) (packed-unpacked φ.widths φ.size full.filled s bytes (eqb-true _ _ sized.0));
      }

  -- bytes that are no word are refused
  pub no-word : (s : List ℕ) → Bytes s → ((p : Parts) → IsWord φ p s → ⊥) → read φ s ≡ answer (Err NoWord)
  unfolding read judged
  no-word s bytes none = go (eqb (length s) φ.size) (eqb (get_or v 0 0) φ.number and keeps φ (parts_of v)) refl refl
    where
      v : List ℕ
      v = unpacked φ.widths s

      go : (t u : Bool) → eqb (length s) φ.size ≡ t → (eqb (get_or v 0 0) φ.number and keeps φ (parts_of v)) ≡ u → read φ s ≡ answer (Err NoWord)
      go false u e i = rw (e)
      go true false e i = rw (e, i)
      go true true e i = absurd (none (parts_of v) (read_word_lem (parts_of v) s bytes (rw (e, i))))
