-- The walk on cases, computed.
use Rattle.std.specs.Prelude.{false, List, [], ◌∷◌, ◌≡◌, refl, ℕ}
use Rattle.notation.specs.Ascii.{bytes}
use Rattle.notation.specs.Case.{Case, Answers}
use Rattle.lexeme.specs.inner.Start.{start}
use Rattle.json_text.specs.Cases.{reading}
use Rattle.json_text.specs.Tree.{Json}
use Rattle.walk.specs.declared.Member.{Member}
use Rattle.walk.specs.declared.Item.{Item}
use Rattle.walk.specs.declared.ValueKind.{ValueKind}
use Rattle.walk.specs.declared.ValueKind.TheVariants as kind
use Rattle.walk.specs.Walk.{part, onward, member_in, member_at, members_from, members_of, item_in, item_at, items_from, items_of}
use Rattle.walk.specs.Part.{part_tree, inside}
use Rattle.walk.specs.inner.Kind.{kind_at}
use Rattle.walk.specs.inner.Mark.{packed, before, string_mark, bracket_like, bracket_mark}
use Rattle.walk.specs.inner.Skip.{quoted, enclosed, numbered, skipped}

-- opens every definition of this layer
unfoldable pub walking : Unit {0}
unfolding reading onward member_in member_at members_from members_of item_in item_at items_from items_of part_tree start kind_at quoted enclosed numbered skipped packed before string_mark bracket_like bracket_mark
walking = tt

abbrev at : ℕ → ℕ → ℕ → ℕ → ℕ → Member
at name name_end value value_end next = record { name = name; name_end = name_end; value = value; value_end = value_end; next = next }

abbrev from : ℕ → ℕ → ℕ → Item
from value value_end next = record { value = value; value_end = value_end; next = next }

abbrev objects : List (Case (List ℕ) (List Member))
objects =
    ("two members", bytes "{\"a\":1,\"bc\":[2]}", at 2 3 5 6 7 ∷ at 8 10 12 15 15 ∷ []) ∷
    ("blanks around each", bytes "{ \"a\" : 1 , \"b\" : 2 }", at 3 4 8 9 11 ∷ at 13 14 18 19 20 ∷ []) ∷
    ("an empty name", bytes "{\"\":0}", at 2 2 4 5 5 ∷ []) ∷
    ("a name twice", bytes "{\"a\":1,\"a\":2}", at 2 3 5 6 7 ∷ at 8 9 11 12 12 ∷ []) ∷
    ("members inside are passed over", bytes "{\"a\":{\"b\":1},\"c\":0}", at 2 3 5 12 13 ∷ at 14 15 17 18 18 ∷ []) ∷
    ("no member", bytes "{ }", []) ∷
    ("an array has none", bytes "[\"a\"]", []) ∷
    []

objects-answered : Answers members_of objects
unfolding walking
objects-answered = refl

abbrev arrays : List (Case (List ℕ) (List Item))
arrays =
    ("three items", bytes "[1, [2,3] ,true]", from 1 2 3 ∷ from 4 9 11 ∷ from 11 15 15 ∷ []) ∷
    ("no item", bytes "[]", []) ∷
    ("up to what is no item", bytes "{\"a\":1}", from 1 4 4 ∷ []) ∷
    []

arrays-answered : Answers items_of arrays
unfolding walking
arrays-answered = refl

value_in_its_part : part_tree (part (bytes "{\"a\":false}") 5 10) ≡ Json.boolean false
unfolding walking
value_in_its_part = refl

text-between-quotes : inside (bytes "\"ab\"") ≡ bytes "ab"
unfolding walking
text-between-quotes = refl

abbrev kinds : List (Case (List ℕ) ValueKind)
kinds =
    ("a number", bytes "-1", kind.Number) ∷
    ("a string", bytes "\"\"", kind.String) ∷
    ("a boolean", bytes "true", kind.Boolean) ∷
    ("null", bytes "null", kind.Null) ∷
    ("an array", bytes "[]", kind.Array) ∷
    ("an object", bytes "{}", kind.Object) ∷
    ("no bytes", [], kind.Null) ∷
    []

kinds-answered : Answers kind_at kinds
unfolding walking
kinds-answered = refl

-- the bytes behind the value at the front
abbrev rests : List (Case (List ℕ) (List ℕ))
rests =
    ("of a string", bytes "\"a\\\"]\\\\\",1", bytes ",1") ∷
    ("brackets in strings are passed over", bytes "[\"]\",{\"}\":[]}, 2]}", bytes "}") ∷
    ("of a number", bytes "-1.5e3]", bytes "]") ∷
    ("of true", bytes "true,", bytes ",") ∷
    ("of false", bytes "false}", bytes "}") ∷
    ("of null", bytes "null ", bytes " ") ∷
    ("no value at the front", bytes "]", bytes "]") ∷
    ("no number at the front", bytes "-,", bytes "-,") ∷
    ("no bytes", [], []) ∷
    []

rests-answered : Answers skipped rests
unfolding walking
rests-answered = refl

first-byte-least : packed (bytes "AB") ≡ 0x4241
unfolding walking
first-byte-least = refl

-- how many bytes stand before the first mark
abbrev strings : List (Case (List ℕ) ℕ)
strings =
    ("a quotation mark", bytes "abc\"\\", 3) ∷
    ("a backslash", bytes "abcdefg\\", 7) ∷
    ("none, of brackets too", bytes "[{}]", 4) ∷
    []

strings-answered : Answers (before string_mark) strings
unfolding walking
strings-answered = refl

abbrev brackets : List (Case (List ℕ) ℕ)
brackets =
    ("an array opens", bytes "-1,[", 3) ∷
    ("an array closes", bytes "2]", 1) ∷
    ("an object opens", bytes ": {", 2) ∷
    ("an object closes", bytes "true}", 4) ∷
    ("a quotation mark", bytes ",\"[", 1) ∷
    ("none", bytes "1.5e-7, ", 8) ∷
    []

brackets-answered : Answers (before bracket_mark) brackets
unfolding walking
brackets-answered = refl
