-- UTF-8 on cases, computed: the first and the last code point of each length, and those beside the surrogates.
use Rattle.std.specs.Prelude.{List, [], ◌∷◌, refl, ℕ}
use Prim.Native.String.{String}
use Rattle.notation.specs.Case.{Case, Answers}
use Rattle.lexeme.specs.Character.{paired, next}
use Rattle.lexeme.specs.Utf8.{bytes_in, utf8, code_point}
use Rattle.lexeme.specs.Cases.{lexing}

-- opens this layer
unfoldable coding : Unit {0}
unfolding lexing bytes_in utf8 code_point
coding = tt

-- the bytes of a code point, the code point of those, and the bytes of the character that is read from them
abbrev Coded : Type 0
Coded = List ℕ × ℕ × List ℕ

abbrev coded : ℕ → Coded
coded v = (utf8 v, code_point (utf8 v), bytes_in (next paired (utf8 v)))

-- a character: one way and the other
abbrev character : String → ℕ → List ℕ → Case ℕ Coded
character what v l = (what, v, (l, v, l))

abbrev code_points : List (Case ℕ Coded)
code_points =
    character "the first of one byte that may stand in a string" 0x20 (0x20 ∷ []) ∷
    character "the last of one byte" 0x7f (0x7f ∷ []) ∷
    character "the first of two" 0x80 (0xc2 ∷ 0x80 ∷ []) ∷
    character "the last of two" 0x7ff (0xdf ∷ 0xbf ∷ []) ∷
    character "the first of three" 0x800 (0xe0 ∷ 0xa0 ∷ 0x80 ∷ []) ∷
    character "before the surrogates" 0xd7ff (0xed ∷ 0x9f ∷ 0xbf ∷ []) ∷
    character "after the surrogates" 0xe000 (0xee ∷ 0x80 ∷ 0x80 ∷ []) ∷
    character "the last of three" 0xffff (0xef ∷ 0xbf ∷ 0xbf ∷ []) ∷
    character "the first of four" 0x10000 (0xf0 ∷ 0x90 ∷ 0x80 ∷ 0x80 ∷ []) ∷
    character "the last of all" 0x10ffff (0xf4 ∷ 0x8f ∷ 0xbf ∷ 0xbf ∷ []) ∷
    ("a surrogate is encoded, where it passes alone; its bytes are no character", 0xd800, (0xed ∷ 0xa0 ∷ 0x80 ∷ [], 0xd800, [])) ∷
    []

code-points-answered : Answers coded code_points
unfolding coding
code-points-answered = refl
