-- Lexemes on cases, computed: what is read and the text after it, or the fault's kind and the text from it on.
use Rattle.std.specs.Prelude.{Bool, true, List, [], ◌∷◌, refl, ℕ}
use Rattle.word.specs.Kinds.{not_json, unpaired}
use Rattle.notation.specs.Ascii.{bytes}
use Rattle.notation.specs.Case.{Case, Answers}
use Rattle.lexeme.specs.Read.{Read, made, then}
use Rattle.lexeme.specs.Read.Read.{done, bad}
use Rattle.lexeme.specs.Character.{paired, lone, within, utf2, utf3, utf4, encoded, hex_value, hexadecimal, quad, low_of, trail, combined, alone, high, unit, unicode, short, escape, next}
use Rattle.lexeme.specs.Strings.{string, decoded}
use Rattle.lexeme.specs.Numbers.{digit, either, digits, some_digits, optional, both, nothing, integer, minus, fraction, exponent, number}
use Rattle.lexeme.specs.Tokens.{blank, blanks, literal}

-- opens every definition of this layer
unfoldable pub lexing : Unit {0}
unfolding made then within utf2 utf3 utf4 encoded hex_value hexadecimal quad low_of trail combined alone high unit unicode short escape next string decoded digit either digits some_digits optional both nothing integer minus fraction exponent number blank blanks literal
lexing = tt

-- a string by stage A's rule
abbrev inside : List ℕ → Read (List ℕ)
inside = string paired 0

abbrev strings : List (Case (List ℕ) (Read (List ℕ)))
strings =
    -- Strings, from just past the opening quote: what they spell.
    ("plain text", bytes "ab\",", done (bytes "ab") (bytes ",")) ∷
    ("empty string", bytes "\"", done [] []) ∷
    ("ends at its first quote", bytes "a\"b\"", done (bytes "a") (bytes "b\"")) ∷
    ("every short escape", bytes "\\\"\\\\\\/\\b\\f\\n\\r\\t\"", done (0x22 ∷ 0x5c ∷ 0x2f ∷ 0x08 ∷ 0x0c ∷ 0x0a ∷ 0x0d ∷ 0x09 ∷ []) []) ∷
    ("escaped quote ends nothing", bytes "a\\\"b\"", done (bytes "a\"b") []) ∷
    ("escape of one byte", bytes "\\u0041\"", done (bytes "A") []) ∷
    ("escape of nul", bytes "\\u0000\"", done (0x00 ∷ []) []) ∷
    ("escape of two bytes", bytes "\\u00e9\"", done (0xc3 ∷ 0xa9 ∷ []) []) ∷
    ("escape of three bytes", bytes "\\u20AC\"", done (0xe2 ∷ 0x82 ∷ 0xac ∷ []) []) ∷
    ("greatest escape", bytes "\\uffff\"", done (0xef ∷ 0xbf ∷ 0xbf ∷ []) []) ∷
    ("pair", bytes "\\ud83d\\uDE00\"", done (0xf0 ∷ 0x9f ∷ 0x98 ∷ 0x80 ∷ []) []) ∷
    ("least pair", bytes "\\ud800\\udc00\"", done (0xf0 ∷ 0x90 ∷ 0x80 ∷ 0x80 ∷ []) []) ∷
    ("greatest pair", bytes "\\udbff\\udfff\"", done (0xf4 ∷ 0x8f ∷ 0xbf ∷ 0xbf ∷ []) []) ∷
    ("delete is plain", 0x7f ∷ 0x22 ∷ [], done (0x7f ∷ []) []) ∷
    ("two bytes", 0xc2 ∷ 0x80 ∷ 0x22 ∷ [], done (0xc2 ∷ 0x80 ∷ []) []) ∷
    ("three bytes", 0xe0 ∷ 0xa0 ∷ 0x80 ∷ 0x22 ∷ [], done (0xe0 ∷ 0xa0 ∷ 0x80 ∷ []) []) ∷
    ("last before surrogates", 0xed ∷ 0x9f ∷ 0xbf ∷ 0x22 ∷ [], done (0xed ∷ 0x9f ∷ 0xbf ∷ []) []) ∷
    ("byte order mark inside", 0xef ∷ 0xbb ∷ 0xbf ∷ 0x22 ∷ [], done (0xef ∷ 0xbb ∷ 0xbf ∷ []) []) ∷
    ("four bytes", 0xf0 ∷ 0x90 ∷ 0x80 ∷ 0x80 ∷ 0x22 ∷ [], done (0xf0 ∷ 0x90 ∷ 0x80 ∷ 0x80 ∷ []) []) ∷
    ("greatest code point", 0xf4 ∷ 0x8f ∷ 0xbf ∷ 0xbf ∷ 0x22 ∷ [], done (0xf4 ∷ 0x8f ∷ 0xbf ∷ 0xbf ∷ []) []) ∷
    -- Surrogates. One alone is kind 3 at its backslash, but kind 2 goes first where its four digits are not whole.
    ("high at the end", bytes "\\ud800", bad unpaired (bytes "\\ud800")) ∷
    ("high before the quote", bytes "a\\ud800\"", bad unpaired (bytes "\\ud800\"")) ∷
    ("high before a character", bytes "\\udbffa\"", bad unpaired (bytes "\\udbffa\"")) ∷
    ("high before a short escape", bytes "\\ud800\\n\"", bad unpaired (bytes "\\ud800\\n\"")) ∷
    ("high before half a low", bytes "\\ud800\\udc0\"", bad unpaired (bytes "\\ud800\\udc0\"")) ∷
    ("high before an escape that is no low", bytes "\\ud800\\u0041\"", bad unpaired (bytes "\\ud800\\u0041\"")) ∷
    ("high before a high", bytes "\\ud800\\ud800\\udc00\"", bad unpaired (bytes "\\ud800\\ud800\\udc00\"")) ∷
    ("low alone", bytes "\\udc00\"", bad unpaired (bytes "\\udc00\"")) ∷
    ("low before high", bytes "\\udfff\\ud800\"", bad unpaired (bytes "\\udfff\\ud800\"")) ∷
    ("low after a pair", bytes "\\ud83d\\ude00\\ude00\"", bad unpaired (bytes "\\ude00\"")) ∷
    ("high cut off", bytes "\\ud8", bad not_json []) ∷
    ("high with a wrong digit", bytes "\\ud8g0\"", bad not_json (bytes "g0\"")) ∷
    ("low cut off", bytes "\\udc0\"", bad not_json (bytes "\"")) ∷
    -- Faults of UTF-8, at the first byte that no character goes on with.
    ("overlong two", 0xc0 ∷ 0x80 ∷ 0x22 ∷ [], bad not_json (0xc0 ∷ 0x80 ∷ 0x22 ∷ [])) ∷
    ("overlong two greatest", 0xc1 ∷ 0xbf ∷ 0x22 ∷ [], bad not_json (0xc1 ∷ 0xbf ∷ 0x22 ∷ [])) ∷
    ("overlong three", 0xe0 ∷ 0x9f ∷ 0xbf ∷ 0x22 ∷ [], bad not_json (0x9f ∷ 0xbf ∷ 0x22 ∷ [])) ∷
    ("surrogate in utf8", 0xed ∷ 0xa0 ∷ 0x80 ∷ 0x22 ∷ [], bad not_json (0xa0 ∷ 0x80 ∷ 0x22 ∷ [])) ∷
    ("overlong four", 0xf0 ∷ 0x8f ∷ 0xbf ∷ 0xbf ∷ 0x22 ∷ [], bad not_json (0x8f ∷ 0xbf ∷ 0xbf ∷ 0x22 ∷ [])) ∷
    ("past the last code point", 0xf4 ∷ 0x90 ∷ 0x80 ∷ 0x80 ∷ 0x22 ∷ [], bad not_json (0x90 ∷ 0x80 ∷ 0x80 ∷ 0x22 ∷ [])) ∷
    ("no first byte f5", 0xf5 ∷ 0x80 ∷ 0x80 ∷ 0x80 ∷ 0x22 ∷ [], bad not_json (0xf5 ∷ 0x80 ∷ 0x80 ∷ 0x80 ∷ 0x22 ∷ [])) ∷
    ("no first byte ff", 0xff ∷ 0x22 ∷ [], bad not_json (0xff ∷ 0x22 ∷ [])) ∷
    ("continuation alone", 0x80 ∷ 0x22 ∷ [], bad not_json (0x80 ∷ 0x22 ∷ [])) ∷
    ("second of two wrong", 0xc3 ∷ 0x22 ∷ [], bad not_json (0x22 ∷ [])) ∷
    ("third of three wrong", 0xe2 ∷ 0x82 ∷ 0x22 ∷ [], bad not_json (0x22 ∷ [])) ∷
    ("fourth of four wrong", 0xf0 ∷ 0x9f ∷ 0x98 ∷ 0xc0 ∷ 0x22 ∷ [], bad not_json (0xc0 ∷ 0x22 ∷ [])) ∷
    ("two cut off", 0xc3 ∷ [], bad not_json []) ∷
    ("three cut off", 0xe2 ∷ 0x82 ∷ [], bad not_json []) ∷
    ("four cut off", 0xf0 ∷ 0x9f ∷ 0x98 ∷ [], bad not_json []) ∷
    -- Other faults of strings.
    ("control byte", 0x61 ∷ 0x1f ∷ 0x22 ∷ [], bad not_json (0x1f ∷ 0x22 ∷ [])) ∷
    ("line feed", 0x0a ∷ 0x22 ∷ [], bad not_json (0x0a ∷ 0x22 ∷ [])) ∷
    ("nul", 0x00 ∷ 0x22 ∷ [], bad not_json (0x00 ∷ 0x22 ∷ [])) ∷
    ("no such escape", bytes "\\x\"", bad not_json (bytes "x\"")) ∷
    ("escape in capitals", bytes "\\N\"", bad not_json (bytes "N\"")) ∷
    ("backslash at the end", bytes "a\\", bad not_json []) ∷
    ("digits missing", bytes "\\u", bad not_json []) ∷
    ("no closing quote", bytes "ab", bad not_json []) ∷
    []

strings-answered : Answers inside strings
unfolding lexing
strings-answered = refl

abbrev laxer : List (Case (List ℕ) (Read (List ℕ)))
laxer =
    ("lone high passes", bytes "\\ud800\"", done (0xed ∷ 0xa0 ∷ 0x80 ∷ []) []) ∷
    ("lone low passes", bytes "\\udfff\"", done (0xed ∷ 0xbf ∷ 0xbf ∷ []) []) ∷
    ("pair by the laxer rule", bytes "\\ud83d\\ude00\"", done (0xf0 ∷ 0x9f ∷ 0x98 ∷ 0x80 ∷ []) []) ∷
    []

laxer-answered : Answers (string lone 0) laxer
unfolding lexing
laxer-answered = refl

abbrev spelled : List (Case (List ℕ) (List ℕ))
spelled =
    -- Spelled bytes taken alone.
    ("decoded alone", bytes "a\\n\\u0041", 0x61 ∷ 0x0a ∷ 0x41 ∷ []) ∷
    ("decoded up to a fault", bytes "ab\\ud800c", bytes "ab") ∷
    []

spelled-answered : Answers (decoded paired 0) spelled
unfolding lexing
spelled-answered = refl

abbrev numbers : List (Case (List ℕ) (Read (List ℕ)))
numbers =
    -- Numbers.
    ("zero alone", bytes "0", done (bytes "0") []) ∷
    ("minus zero", bytes "-0]", done (bytes "-0") (bytes "]")) ∷
    ("whole spelling", bytes "-12.50E-03,", done (bytes "-12.50E-03") (bytes ",")) ∷
    ("exponent with plus", bytes "1.5e+3", done (bytes "1.5e+3") []) ∷
    ("digits only", bytes "9007199254740993 ", done (bytes "9007199254740993") (bytes " ")) ∷
    ("nothing after a leading zero", bytes "01", done (bytes "0") (bytes "1")) ∷
    ("stops at a letter", bytes "1x", done (bytes "1") (bytes "x")) ∷
    ("one point only", bytes "1.5.2", done (bytes "1.5") (bytes ".2")) ∷
    ("minus alone", bytes "-", bad not_json []) ∷
    ("minus before no digit", bytes "-.5", bad not_json (bytes ".5")) ∷
    ("two minuses", bytes "--1", bad not_json (bytes "-1")) ∷
    ("point before no digit", bytes "1.", bad not_json []) ∷
    ("exponent at the end", bytes "1e", bad not_json []) ∷
    ("exponent sign at the end", bytes "1e+", bad not_json []) ∷
    ("exponent before no digit", bytes "1e+-2", bad not_json (bytes "-2")) ∷
    ("point in front", bytes ".5", bad not_json (bytes ".5")) ∷
    ("plus in front", bytes "+1", bad not_json (bytes "+1")) ∷
    []

numbers-answered : Answers number numbers
unfolding lexing
numbers-answered = refl

abbrev words : List (Case (List ℕ) (Read Bool))
words =
    -- Words.
    ("word", bytes "true,", done true (bytes ",")) ∷
    ("word goes no further", bytes "truex", done true (bytes "x")) ∷
    ("word cut off", bytes "tru", bad not_json []) ∷
    ("word misspelt", bytes "trie", bad not_json (bytes "ie")) ∷
    ("word in capitals", bytes "True", bad not_json (bytes "True")) ∷
    []

words-answered : Answers (literal (bytes "true") true) words
unfolding lexing
words-answered = refl

abbrev blanks_passed : List (Case (List ℕ) (List ℕ))
blanks_passed =
    -- Blanks.
    ("four blanks", 0x20 ∷ 0x09 ∷ 0x0a ∷ 0x0d ∷ 0x31 ∷ [], 0x31 ∷ []) ∷
    ("blanks to the end", bytes "   ", []) ∷
    ("blanks up to the first byte", bytes "  a b", bytes "a b") ∷
    ("form feed is no blank", 0x0c ∷ 0x20 ∷ [], 0x0c ∷ 0x20 ∷ []) ∷
    []

blanks-answered : Answers blanks blanks_passed
unfolding lexing
blanks-answered = refl
