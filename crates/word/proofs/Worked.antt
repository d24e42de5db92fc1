-- Words at each limit of the rule, written and read back, and bytes that are no word, computed. Document 01's own words (k) and (l) stand in the table of
-- its readings.
use mathlib.Core.List.{List, [], ◌∷◌}
use mathlib.Core.Path.{refl}
use Prim.Native.Nat.{ℕ}
use Prim.Native.String.{String}
use Rattle.notation.specs.Case.{Case, Answers}
use Rattle.radix.specs.Radix.{weight, number_from, number, digits}
use Rattle.radix.specs.Fields.{bytes_number, packed, unpacked}
use Rattle.word.specs.declared.Parts.{Parts}
use Rattle.word.specs.declared.refusal.Refusal.TheVariants.{NoWord}
use Rattle.std.specs.Prelude.{Ok, Err}
use Rattle.word.specs.Form.{form1}
use Rattle.word.specs.Word.{Answer, keeps, word_of, answer, judged, read}

abbrev parts : (file kind field rec sub offset : ℕ) → Parts
parts file kind field rec sub offset =
    record { file = file; kind = kind; field = field; «record» = rec; sub = sub; offset = offset }

-- parts with their word, from which they are read back
abbrev Written : Type 0
Written = List ℕ × Answer

abbrev word : String → Parts → List ℕ → Case Parts Written
word what p s = (what, p, (s, answer (Ok p)))

abbrev words : List (Case Parts Written)
words =
    word "every part at its greatest, but for the offset" (parts 8 15 110 4095 4095 0) (0x18 ∷ 0xf6 ∷ 0xef ∷ 0xff ∷ 0xff ∷ 0xf0 ∷ 0 ∷ 0 ∷ []) ∷
    word "the greatest offset" (parts 8 4 0 0 0 1048575) (0x18 ∷ 0x40 ∷ 0 ∷ 0 ∷ 0 ∷ 0x0f ∷ 0xff ∷ 0xff ∷ []) ∷
    []

words-answered : Answers (λ p. (word_of form1 p, read form1 (word_of form1 p))) words
unfolding weight number_from number digits bytes_number packed unpacked keeps word_of judged read
words-answered = refl

abbrev no_word : String → List ℕ → Case (List ℕ) Answer
no_word what s = (what, s, answer (Err NoWord))

abbrev others : List (Case (List ℕ) Answer)
others =
    no_word "no bytes" [] ∷
    no_word "one too few" (0x10 ∷ 0 ∷ 0 ∷ 0 ∷ 0 ∷ 0 ∷ 0 ∷ []) ∷
    no_word "one too many" (0x10 ∷ 0 ∷ 0 ∷ 0 ∷ 0 ∷ 0 ∷ 0 ∷ 0 ∷ 0 ∷ []) ∷
    no_word "form 2" (0x20 ∷ 0 ∷ 0 ∷ 0 ∷ 0 ∷ 0 ∷ 0 ∷ 0 ∷ []) ∷
    no_word "kind 0 with an offset" (0x10 ∷ 0 ∷ 0 ∷ 0 ∷ 0 ∷ 0 ∷ 0 ∷ 1 ∷ []) ∷
    no_word "no file" (0x10 ∷ 0x62 ∷ 0x80 ∷ 0x03 ∷ 0 ∷ 0 ∷ 0 ∷ 0 ∷ []) ∷
    no_word "file 9" (0x19 ∷ 0x62 ∷ 0x80 ∷ 0x03 ∷ 0 ∷ 0 ∷ 0 ∷ 0 ∷ []) ∷
    no_word "field 111" (0x14 ∷ 0x66 ∷ 0xf0 ∷ 0x03 ∷ 0 ∷ 0 ∷ 0 ∷ 0 ∷ []) ∷
    no_word "kind 4 with a record" (0x14 ∷ 0x40 ∷ 0 ∷ 0x03 ∷ 0 ∷ 0 ∷ 0 ∷ 0 ∷ []) ∷
    no_word "kind 5 with an offset" (0x14 ∷ 0x52 ∷ 0x80 ∷ 0x03 ∷ 0 ∷ 0 ∷ 0 ∷ 1 ∷ []) ∷
    []

others_answered : Answers (read form1) others
unfolding weight number_from number digits bytes_number unpacked keeps judged read
others_answered = refl
