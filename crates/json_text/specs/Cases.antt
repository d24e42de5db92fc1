-- Stage A on cases, computed. The last two are of any text, by its length. Document 01's own readings stand in the table of all of them.
use Rattle.std.specs.Prelude.{Bool, true, false, List, [], ◌∷◌, ◌≡◌, refl, ℕ, ◌≤◌, ◌<◌, length, Result, Ok}
use Rattle.std.proofs.Common.{arith, lt-ltb, le-ltb}
use Rattle.limits.specs.Ceilings.{file_bytes, depth}
use Rattle.notation.specs.Ascii.{bytes}
use Rattle.notation.specs.Case.{Case, Answers}
use Rattle.lexeme.specs.Read.{placed, wrong_at}
use Rattle.lexeme.specs.Read.Read.{done}
use Rattle.lexeme.specs.Character.{within, paired}
use Rattle.lexeme.specs.Cases.{lexing}
use Rattle.json_text.specs.Tree.{Json, item, no_item, as_items, as_members}
use Rattle.json_text.specs.Text.{expect, separator, after, elements_up_to, contents, bracketed, member, value_by, value, finish, text, syntax_by, syntax_of}
use Rattle.json_text.specs.Spelling.{Blanks, Padded, Character, Characters, Quoted, Plain, Listed, Enclosed, Nested, Spells}
use Rattle.json_text.specs.Places.{Place, outside, inside, escaped, place_after, placing, Escape, Low, Unpaired}
use Rattle.lexeme.specs.declared.SyntaxError.{SyntaxError}

-- opens every definition of stage A
unfoldable pub reading : Unit {0}
unfolding lexing placed as_items as_members expect separator after elements_up_to contents bracketed member value_by value finish text syntax_by syntax_of
reading = tt

abbrev texts : List (Case (List ℕ) (Result (Unit {0}) SyntaxError))
texts =
    -- any value is a text, with blanks around it
    ("zero", bytes "0", Ok tt) ∷
    ("number in full", bytes "-12.5e+3", Ok tt) ∷
    ("word null", bytes "null", Ok tt) ∷
    ("empty string", bytes "\"\"", Ok tt) ∷
    ("empty array", bytes "[]", Ok tt) ∷
    ("empty object", bytes "{}", Ok tt) ∷
    ("blanks everywhere", 0x09 ∷ 0x0a ∷ 0x0d ∷ 0x20 ∷ bytes "[ 1 , { \"a\" : true } ] ", Ok tt) ∷
    ("every sort of value", bytes "{\"a\":[1,-2.5e+3,true,null,\"x\\u0061\"]}", Ok tt) ∷
    ("name twice", bytes "{\"a\":1,\"a\":2}", Ok tt) ∷
    ("name empty", bytes "{\"\":false}", Ok tt) ∷
    -- cut off, the fault is at the end of the text
    ("nothing", [], wrong_at 2 0) ∷
    ("cut after bracket", bytes "[", wrong_at 2 1) ∷
    ("cut after item", bytes "[1", wrong_at 2 2) ∷
    ("cut after comma", bytes "[1,", wrong_at 2 3) ∷
    ("cut after brace", bytes "{", wrong_at 2 1) ∷
    ("cut after name", bytes "{\"a\"", wrong_at 2 4) ∷
    ("cut after colon", bytes "{\"a\":", wrong_at 2 5) ∷
    ("cut after member", bytes "{\"a\":1", wrong_at 2 6) ∷
    ("cut after member comma", bytes "{\"a\":1,", wrong_at 2 7) ∷
    ("cut in string", bytes "\"a", wrong_at 2 2) ∷
    ("cut after backslash", bytes "\"\\", wrong_at 2 2) ∷
    ("cut in escape", bytes "\"\\u00", wrong_at 2 5) ∷
    ("cut in word", bytes "tru", wrong_at 2 3) ∷
    ("cut after minus", bytes "-", wrong_at 2 1) ∷
    ("cut after point", bytes "1.", wrong_at 2 2) ∷
    ("cut after exponent", bytes "1e+", wrong_at 2 3) ∷
    ("cut in character", 0x22 ∷ 0xe2 ∷ 0x82 ∷ [], wrong_at 2 3) ∷
    -- brackets, commas and colons out of place
    ("array closed as object", bytes "[1}", wrong_at 2 2) ∷
    ("object closed as array", bytes "{\"a\":1]", wrong_at 2 6) ∷
    ("bracket never opened", bytes "]", wrong_at 2 0) ∷
    ("bracket closed twice", bytes "[]]", wrong_at 2 2) ∷
    ("comma first", bytes "[,1]", wrong_at 2 1) ∷
    ("comma twice", bytes "[1,,2]", wrong_at 2 3) ∷
    ("comma missing", bytes "[1 2]", wrong_at 2 3) ∷
    ("comma then brace", bytes "{\"a\":1,}", wrong_at 2 7) ∷
    ("colon missing", bytes "{\"a\" 1}", wrong_at 2 5) ∷
    ("colon twice", bytes "{\"a\"::1}", wrong_at 2 5) ∷
    ("colon in array", bytes "[1:2]", wrong_at 2 2) ∷
    ("value missing", bytes "{\"a\":}", wrong_at 2 5) ∷
    ("name no string", bytes "{1:2}", wrong_at 2 1) ∷
    ("two values", bytes "1 2", wrong_at 2 2) ∷
    ("two texts", bytes "[] {}", wrong_at 2 3) ∷
    -- what RFC 8259 lacks
    ("byte order mark", 0xef ∷ 0xbb ∷ 0xbf ∷ bytes "1", wrong_at 2 0) ∷
    ("byte order mark in string", 0x22 ∷ 0xef ∷ 0xbb ∷ 0xbf ∷ 0x22 ∷ [], Ok tt) ∷
    ("form feed no blank", 0x0c ∷ bytes "1", wrong_at 2 0) ∷
    ("tab in string", 0x22 ∷ 0x09 ∷ 0x22 ∷ [], wrong_at 2 1) ∷
    ("word in capitals", bytes "True", wrong_at 2 0) ∷
    ("word misspelt", bytes "nulL", wrong_at 2 3) ∷
    ("plus sign", bytes "+1", wrong_at 2 0) ∷
    ("point first", bytes ".5", wrong_at 2 0) ∷
    ("single quotes", bytes "'a'", wrong_at 2 0) ∷
    ("comment", bytes "[1/**/]", wrong_at 2 2) ∷
    ("overlong character", 0x22 ∷ 0xc0 ∷ 0xaf ∷ 0x22 ∷ [], wrong_at 2 1) ∷
    -- levels: the seventeenth bracket that opens, where a value may stand
    ("sixteen levels", bytes "[[[[[[[[[[[[[[[[]]]]]]]]]]]]]]]]", Ok tt) ∷
    ("sixteen of both", bytes "[{\"a\":[{\"a\":[{\"a\":[{\"a\":[{\"a\":[{\"a\":[{\"a\":[{\"a\":0}]}]}]}]}]}]}]}]", Ok tt) ∷
    ("seventeenth object", bytes "[[[[[[[[[[[[[[[[{", wrong_at 4 16) ∷
    ("seventeenth after others", bytes "[[[]],[[[[[[[[[[[[[[[[", wrong_at 4 21) ∷
    ("seventeenth in member", bytes "{\"a\":{\"a\":{\"a\":{\"a\":{\"a\":{\"a\":{\"a\":{\"a\":{\"a\":{\"a\":{\"a\":{\"a\":{\"a\":{\"a\":{\"a\":{\"a\":[", wrong_at 4 80) ∷
    ("seventeenth before fault", bytes "[[[[[[[[[[[[[[[[[,]", wrong_at 4 16) ∷
    ("seventeenth after fault", bytes "[,[[[[[[[[[[[[[[[[", wrong_at 2 1) ∷
    ("bracket after item", bytes "[[[[[[[[[[[[[[[[1[", wrong_at 2 17) ∷
    ("bracket after text", bytes "[[[[[[[[[[[[[[[[]]]]]]]]]]]]]]]][", wrong_at 2 32) ∷
    ("bracket for name", bytes "{\"a\":{\"a\":{\"a\":{\"a\":{\"a\":{\"a\":{\"a\":{\"a\":{\"a\":{\"a\":{\"a\":{\"a\":{\"a\":{\"a\":{\"a\":{[", wrong_at 2 76) ∷
    ("brackets in string", bytes "\"[[[[[[[[[[[[[[[[[\"", Ok tt) ∷
    -- surrogate escapes, in names and in values
    ("surrogate pair", bytes "\"\\ud83d\\ude00\"", Ok tt) ∷
    ("lone low surrogate", bytes "\"\\udc00\"", wrong_at 3 1) ∷
    ("halves reversed", bytes "\"\\udc00\\ud800\"", wrong_at 3 1) ∷
    ("high before pair", bytes "\"\\ud800\\ud800\\udc00\"", wrong_at 3 1) ∷
    ("lone in name", bytes "{\"\\ud800\":1}", wrong_at 3 2) ∷
    ("lone in value", bytes "{\"a\":\"\\udc00\"}", wrong_at 3 6) ∷
    ("lone then cut off", bytes "\"\\ud800", wrong_at 3 1) ∷
    ("high cut off", bytes "\"\\ud80", wrong_at 2 6) ∷
    ("lone after fault", bytes "[,\"\\ud800\"]", wrong_at 2 1) ∷
    ("lone before level", bytes "[\"\\ud800\",[[[[[[[[[[[[[[[[", wrong_at 3 2) ∷
    ("lone after level", bytes "[[[[[[[[[[[[[[[[[\"\\ud800\"", wrong_at 4 16) ∷
    []

texts-answered : Answers syntax_of texts
unfolding reading
texts-answered = refl

-- spellings of one tree: other blanks, other escapes

one-tree : Json
one-tree = Json.array (item (Json.string (bytes "a\n")) (item (Json.number (bytes "1")) no_item))

tree-bare : text paired depth (bytes "[\"a\\n\",1]") ≡ done one-tree []
unfolding reading one-tree
tree-bare = refl

tree_respelled : text paired depth (bytes " [ \"\\u0061\\u000A\" , 1 ] ") ≡ done one-tree []
unfolding reading one-tree
tree_respelled = refl

blank : Blanks (bytes " ")
unfolding reading
blank = Blanks.some refl Blanks.none

letter : Character (bytes "a") (bytes "a")
unfolding reading
letter = Character.character {x = record { b0 = 0x61; b1 = 0; b2 = 0; b3 = 0; len = 1; more = 0 }} refl refl

letter-escaped : Character (bytes "a") (bytes "\\u0061")
unfolding reading
letter-escaped = Character.character {x = record { b0 = 0x61; b1 = 0; b2 = 0; b3 = 0; len = 1; more = 5 }} refl refl

mixed : Spells 1 (Json.array (item (Json.string (bytes "aa")) (item (Json.number (bytes "1")) no_item))) (bytes "[\"a\\u0061\" ,1]")
unfolding reading
mixed =
    record {
      whole =
          Padded.padded Blanks.none
          (Nested.array (Enclosed.elements (Padded.padded Blanks.none
          (Listed.comma (Plain.string (Quoted.quoted (Characters.then letter (Characters.then letter-escaped Characters.end)))) blank Blanks.none
          (Listed.last (Plain.number {n = bytes "1"} refl)))
          Blanks.none)))
          Blanks.none;
    }

abbrev places : List (Case (List ℕ) Place)
places =
    -- places by the bytes alone: brackets in strings do not count, and an escaped quotation mark or backslash ends nothing
    ("three open", bytes "[0, {\"a]\": [", outside 3) ∷
    ("one closed", bytes "[[1], {\"b\": [2]}, ", outside 1) ∷
    ("quote escaped", bytes "[\"\\\"[", inside 1) ∷
    ("backslash escaped", bytes "\"\\\\\"", outside 0) ∷
    ("after backslash", bytes "[\"\\", escaped 1) ∷
    []

places-answered : Answers place_after places
unfolding placing
places-answered = refl

-- surrogate escapes that pair with none after them

low-alone : Unpaired (bytes "\\udc00\"")
unfolding placing
low-alone = Unpaired.low (record { value = 0xdc00; whole = Escape.escape refl refl refl refl; range = refl })

no-low-at-end : (p : List ℕ) → Low [] p → ⊥
no-low-at-end p u = go u.whole
  where
    go : {v : ℕ} {p : List ℕ} → Escape v [] p → ⊥
    go e = elim e [ ]

high-at-end : Unpaired (bytes "\\uDBFF")
unfolding placing
high-at-end = Unpaired.high (record { value = 0xdbff; whole = Escape.escape refl refl refl refl; range = refl }) no-low-at-end

pair-is-none : Unpaired (bytes "\\ud83d\\ude00\"") → ⊥
unfolding placing
pair-is-none (Unpaired.low u) = go u.whole u.range
  where
    go : {v : ℕ} {q : List ℕ} → Escape v (bytes "\\ud83d\\ude00\"") q → within 0xdc00 0xdfff v ≡ true → ⊥
    go (Escape.escape h i j k) e = let f : ◌≡◌ {A = Bool} false true = e in let n : ◌≡◌ {A = ℕ} 0 1 = cc in omega arith
pair-is-none (Unpaired.high u none) = go u.whole none
  where
    go : {v : ℕ} {q : List ℕ} → Escape v (bytes "\\ud83d\\ude00\"") q → ((p : List ℕ) → Low q p → ⊥) → ⊥
    go (Escape.escape h i j k) none = none (bytes "\"") (record { value = 0xde00; whole = Escape.escape refl refl refl refl; range = refl })

-- kind 1: a text above the ceiling is not looked into; one at the ceiling is read

too_long_lem : (s : List ℕ) → file_bytes < length s → syntax_of s ≡ wrong_at 1 0
unfolding syntax_of
too_long_lem s h = rw (lt-ltb file_bytes (length s) h, syntax_of)

not_too_long : (s : List ℕ) → length s ≤ file_bytes → syntax_of s ≡ syntax_by (placed s (text paired depth s))
unfolding syntax_of
not_too_long s h = rw (le-ltb file_bytes (length s) h, syntax_of)
