-- The forms of a verdict word: document 01, "The verdict word", with document 02's greatest file and field, W1. A form is a list of widths with what goes with it, and every
-- definition and law of words is over any form.
use Rattle.std.specs.Prelude.{List, [], ◌∷◌, ℕ}

pub record Form : Type 0 where
  -- the number that stands in the first field of every word of this form
  pub number : ℕ
  -- how many bytes a word has
  pub size : ℕ
  -- the widths in bits, most significant first: form, file, kind, field, record, sub, offset
  pub widths : List ℕ
  -- the greatest number of a file and of a field
  pub files : ℕ
  pub fields : ℕ

-- form 1: 64 bits
abbrev pub form1 : Form
form1 = record { number = 1; size = 8; widths = 4 ∷ 4 ∷ 4 ∷ 8 ∷ 12 ∷ 12 ∷ 20 ∷ []; files = 8; fields = 110 }

-- the form in which words are written, and how many bytes they then have
abbrev pub written_form : Form
written_form = form1

abbrev pub word_size : ℕ
word_size = written_form.size
