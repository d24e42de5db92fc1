-- The verdict word and the question "read a word": document 01, "The verdict word" and the table of questions.
-- A word is its parts packed by the form's layout; bytes are a word where their parts keep the rule, and are refused otherwise.
use Rattle.std.specs.Prelude.{Bool, true, List, [], ◌∷◌, ◌≡◌, ℕ, ◌+◌, eqb, leb, ltb, length, get_or, Result, Ok, Err}
use Rattle.notation.specs.Choice.{◌⇒◌else◌, ◌and◌}
use Rattle.radix.specs.Radix.{Fit}
use Rattle.radix.specs.Fields.{bases, packed, unpacked}
use Rattle.word.specs.declared.Parts.{Parts}
use Rattle.word.specs.declared.refusal.Refusal.{Refusal}
use Rattle.word.specs.Form.{Form, form1}
pub use Rattle.word.specs.Refusals.{no_parts, refusal_number, refusal_parts}

-- the fields' values, in the layout's order
abbrev pub values_of : Form → Parts → List ℕ
values_of φ p = φ.number ∷ p.file ∷ p.kind ∷ p.field ∷ p.«record» ∷ p.sub ∷ p.offset ∷ []

abbrev pub parts_of : List ℕ → Parts
parts_of v =
    record {
      file = get_or v 1 0;
      kind = get_or v 2 0;
      field = get_or v 3 0;
      «record» = get_or v 4 0;
      sub = get_or v 5 0;
      offset = get_or v 6 0;
    }

-- every part is within its width
abbrev pub Fits : Form → Parts → Type 0
Fits φ p = Fit (bases φ.widths) (values_of φ p)

-- a place by field, record and sub: all three are zero where their sum is
abbrev pub located : Parts → ℕ
located p = p.field + p.«record» + p.sub

-- The rule that a word keeps. Kind 0, accepted: all else is zero. Any other kind: a file and a field that there are, and the place by
-- the offset alone, for kinds 1 to 4, or without the offset.
unfoldable pub keeps : Form → Parts → Bool
keeps φ p =
    eqb p.kind 0 ⇒ eqb (p.file + located p + p.offset) 0 else
    ltb 0 p.file and leb p.file φ.files and leb p.field φ.fields
    and (leb p.kind 4 ⇒ eqb (located p) 0 else eqb p.offset 0)

-- the bytes of a word
unfoldable pub word_of : Form → Parts → List ℕ
word_of φ p = packed φ.widths φ.size (values_of φ p)

-- s is the word of the parts p
pub record IsWord (φ : Form) (p : Parts) (s : List ℕ) : Type 0 where
  pub fits : Fits φ p
  pub kept : keeps φ p ≡ true
  pub packs : word_of φ p ≡ s

-- The row "read a word" of the table of questions: an answer's number and values. Parts that are not given are zero.
pub record Answer : Type 0 where
  pub number : ℕ
  pub parts : Parts

abbrev pub refused : ℕ → Answer
refused n = record { number = n; parts = no_parts }

abbrev pub answer : Result Parts Refusal → Answer
answer (Ok p) = record { number = 0; parts = p }
answer (Err r) = record { number = refusal_number r; parts = refusal_parts r }

-- what the values of a word's fields say
unfoldable pub judged : Form → List ℕ → Answer
judged φ v = eqb (get_or v 0 0) φ.number and keeps φ (parts_of v) ⇒ record { number = 0; parts = parts_of v } else refused 3

-- what a byte string says: 3 where it is no word, 0 and its parts where it is
unfoldable pub read : Form → List ℕ → Answer
read φ s = eqb (length s) φ.size ⇒ judged φ (unpacked φ.widths s) else refused 3

-- the question "read a word" of form 1
unfoldable pub read_word : List ℕ → Answer
read_word s = read form1 s
