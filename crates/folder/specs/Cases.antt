-- Numerals, lines and names on cases, computed.
use Rattle.std.specs.Prelude.{◌≡◌, refl, List, [], ◌∷◌, ℕ, pos, Option, None, Some, Result, Ok, Err}
use Rattle.notation.specs.Ascii.{bytes}
use Rattle.notation.specs.Case.{Case, Answers}
use Rattle.word.specs.Word.{no_parts}
use Rattle.std.specs.declared.io.Error.{Error}
use Rattle.word.specs.declared.Parts.{Parts}
use Rattle.folder.specs.declared.Refusal.{Refusal}
use Rattle.folder.specs.declared.Refusal.TheVariants.{Unread, TooLarge}
use Rattle.folder.specs.Reading.{reading_of, refusal_of}
use Rattle.folder.specs.Line.{numeral_within, numeral, line_of, names, name_of}

abbrev numerals : List (Case ℕ (List ℕ))
numerals =
    ("zero", 0, bytes "0") ∷
    ("the last of one digit", 9, bytes "9") ∷
    ("the first of two", 10, bytes "10") ∷
    ("zeros inside", 1002, bytes "1002") ∷
    ("the greatest offset", 1048575, bytes "1048575") ∷
    []

numerals-answered : Answers numeral numerals
unfolding numeral_within
numerals-answered = refl

abbrev lines : List (Case (Result Parts Refusal) (List ℕ))
lines =
    ("document 01's run", Ok (record { file = 4; kind = 6; field = 40; «record» = 3; sub = 0; offset = 0 }), bytes "4 6 40 3 0 0\n") ∷
    ("each part in its place", Ok (record { file = 1; kind = 2; field = 3; «record» = 4; sub = 5; offset = 60 }), bytes "1 2 3 4 5 60\n") ∷
    ("accepted", Ok no_parts, bytes "0 0 0 0 0 0\n") ∷
    ("too large", Err TooLarge, bytes "too large\n") ∷
    ("no answer", Err Unread, []) ∷
    []

lines-answered : Answers line_of lines
unfolding numeral_within line_of
lines-answered = refl

fourth-name : name_of 3 ≡ bytes "free_bike_status.json"
unfolding names name_of
fourth-name = refl

-- reads that succeeded: at the end, and of one byte
abbrev reads : List (Case ℕ (Option ℕ))
reads =
    ("at the end", 0, Some 0) ∷
    ("one byte", 1, Some 1) ∷
    []

reads-answered : Answers (λ n. reading_of (Ok n)) reads
reads-answered = refl

-- a read that fails is no end
failed-read : (e : Error) → reading_of (Err e) ≡ None
failed-read e = refl

-- openings that failed, by the error
abbrev openings : List (Case ℕ (Option ℕ))
openings =
    ("no such file", 2, Some 0) ∷
    ("no right to read it", 13, None) ∷
    []

openings-answered : Answers (λ e. refusal_of (Some (pos e))) openings
openings-answered = refl
