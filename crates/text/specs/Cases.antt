-- Texts, computed.
use Rattle.std.specs.Prelude.{Bool, true, false, List, [], ◌∷◌, ◌++◌, refl, ℕ, zero, suc, length, drop}
use Rattle.notation.specs.Ascii.{bytes}
use Rattle.notation.specs.Case.{Case, Answers}
use Rattle.lexeme.specs.Cases.{lexing}
use Rattle.text.specs.Text.{text_of, meant, same, lower, same_word}
use Rattle.text.specs.Ordering.{order_of}
use Rattle.text.specs.inner.Key.{key_by, key_of}
use Rattle.text.specs.inner.Walk.{alone, seen, same_plain}
use Rattle.std.specs.declared.cmp.Ordering.{Ordering}
use Rattle.std.specs.declared.cmp.Ordering.TheVariants.{Less, Equal, Greater}

-- opens every definition of this layer
unfoldable pub comparing : Unit {0}
unfolding lexing same lower same_word order_of key_by alone seen same_plain
comparing = tt

-- n times the same bytes
unfoldable times : ℕ → List ℕ → List ℕ
times zero x = []
times (suc n) x = x ++ times n x

-- what a spelling decodes to
abbrev decodings : List (Case (List ℕ) (List ℕ))
decodings =
    ("short escapes", bytes "\\\"\\\\\\/\\b\\f\\n\\r\\t", 0x22 ∷ 0x5c ∷ 0x2f ∷ 0x08 ∷ 0x0c ∷ 0x0a ∷ 0x0d ∷ 0x09 ∷ []) ∷
    ("escape of two bytes", bytes "\\u00e9", 0xc3 ∷ 0xa9 ∷ []) ∷
    ("escape of three bytes", bytes "\\u20AC", 0xe2 ∷ 0x82 ∷ 0xac ∷ []) ∷
    ("surrogate pair", bytes "a\\ud83d\\uDE00b", 0x61 ∷ 0xf0 ∷ 0x9f ∷ 0x98 ∷ 0x80 ∷ 0x62 ∷ []) ∷
    ("null byte", bytes "\\u0000", 0 ∷ []) ∷
    ("a character as it stands", 0xe2 ∷ 0x82 ∷ 0xac ∷ [], 0xe2 ∷ 0x82 ∷ 0xac ∷ []) ∷
    ("up to a fault", bytes "a\\ud83d!", bytes "a") ∷
    []

decodings-answered : Answers text_of decodings
unfolding comparing
decodings-answered = refl

-- whether two spellings are one text
abbrev comparisons : List (Case (List ℕ × List ℕ) Bool)
comparisons =
    ("plain", (bytes "lat", bytes "lat"), true) ∷
    ("an escaped letter", (bytes "l\\u0061t", bytes "lat"), true) ∷
    ("two spellings of a character", (bytes "\\u20ac", 0xe2 ∷ 0x82 ∷ 0xac ∷ []), true) ∷
    ("both empty", ([], []), true) ∷
    ("one empty", ([], bytes "a"), false) ∷
    ("shorter", (bytes "la", bytes "lat"), false) ∷
    ("longer", (bytes "lat\\u0020", bytes "lat"), false) ∷
    ("another case", (bytes "Lat", bytes "lat"), false) ∷
    []

comparisons-answered : Answers (λ c. same (text_of c.0) (text_of c.1)) comparisons
unfolding comparing
comparisons-answered = refl

-- how two spellings are in order
abbrev orders : List (Case (List ℕ × List ℕ) Ordering)
orders =
    ("the first byte that differs", (bytes "ab1", bytes "ac0"), Less) ∷
    ("a text and one that goes on from it", (bytes "ab", bytes "ab0"), Less) ∷
    ("one that goes on", (bytes "ab0", bytes "ab"), Greater) ∷
    ("nothing and a null byte", ([], bytes "\\u0000"), Less) ∷
    ("two spellings", (bytes "l\\u0061t", bytes "lat"), Equal) ∷
    ("an escape counts as what it stands for", (bytes "\\u0062", bytes "a"), Greater) ∷
    ("past ASCII comes after it", (bytes "\\u00e9", bytes "z"), Greater) ∷
    ("capitals come first", (bytes "B", bytes "a"), Less) ∷
    ("a quotation mark ends both", (bytes "a\",1", bytes "a\"}"), Equal) ∷
    []

orders-answered : Answers (λ c. order_of (text_of c.0) (text_of c.1)) orders
unfolding comparing
orders-answered = refl

-- what a backslash and a letter mean, as raw bytes and as a spelling
abbrev meanings : List (Case Bool (List ℕ))
meanings =
    ("raw", true, bytes "\\n") ∷
    ("spelled", false, 0x0a ∷ []) ∷
    []

meanings-answered : Answers (λ raw. meant raw (bytes "\\n")) meanings
unfolding comparing
meanings-answered = refl

-- the keys of texts behind their first bytes
abbrev keys : List (Case (ℕ × List ℕ) ℕ)
keys =
    ("four bytes, the first most significant", (0, bytes "abcde"), 0x61626364) ∷
    ("behind a front", (2, bytes "abcdefg"), 0x63646566) ∷
    ("zeros where the text ends", (2, bytes "abc"), 0x63000000) ∷
    ("past the end", (3, bytes "ab"), 0) ∷
    ("decoded bytes", (1, bytes "a\\u20acb\"c"), 0xe282ac62) ∷
    []

keys-answered : Answers (λ c. key_of (drop c.0 (text_of c.1))) keys
unfolding comparing
keys-answered = refl

-- what is seen at the front, raw or not
abbrev sights : List (Case (Bool × List ℕ) ℕ)
sights =
    ("nothing", (false, []), 0) ∷
    ("a byte that stands for itself", (false, bytes "ab"), 0x62) ∷
    ("the end of a spelling", (false, bytes "\"a"), 0) ∷
    ("a raw quotation mark", (true, bytes "\"a"), 0x23) ∷
    ("an escape", (false, bytes "\\n"), 257) ∷
    ("past ASCII", (false, 0xc3 ∷ 0xa9 ∷ []), 257) ∷
    ("past ASCII, raw", (true, 0xc3 ∷ 0xa9 ∷ []), 0xc4) ∷
    []

sights-answered : Answers (λ c. seen c.0 c.1) sights
unfolding comparing
sights-answered = refl

-- whether two spellings begin with the same byte that stands for itself
abbrev fronts : List (Case (List ℕ × List ℕ) Bool)
fronts =
    ("the same", (bytes "ab", bytes "ac"), true) ∷
    ("another", (bytes "a", bytes "b"), false) ∷
    ("both end", (bytes "\",", bytes "\"}"), false) ∷
    ("an escape in both", (bytes "\\n", bytes "\\n"), false) ∷
    ("one has none", (bytes "a", []), false) ∷
    []

fronts-answered : Answers (λ c. same_plain c.0 c.1) fronts
unfolding comparing
fronts-answered = refl

-- whether they are one word, the case of ASCII letters aside
abbrev words : List (Case (List ℕ × List ℕ) Bool)
words =
    ("capitals and an escape", (bytes "Cre\\u0044itCARD", bytes "creditcard"), true) ∷
    ("both are folded", (bytes "creditcard", bytes "CreditCard"), true) ∷
    ("only letters are folded", (bytes "@[", bytes "`{"), false) ∷
    ("not past ASCII", (bytes "\\u00c9", bytes "\\u00e9"), false) ∷
    []

words-answered : Answers (λ c. same_word (text_of c.0) (text_of c.1)) words
unfolding comparing
words-answered = refl

-- lengths, in decoded bytes
abbrev lengths : List (Case (List ℕ) ℕ)
lengths =
    ("escapes count as what they spell", times 100 (bytes "\\u0061"), 100) ∷
    ("bytes count, not characters", times 51 (bytes "\\u00e9"), 102) ∷
    []

lengths-answered : Answers (λ s. length (text_of s)) lengths
unfolding comparing times
lengths-answered = refl
