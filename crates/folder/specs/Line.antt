-- What the desk writes, and the names of the files that it opens: document 01, "Run" and "The feed set".
use Rattle.std.specs.Prelude.{true, false, List, [], ◌∷◌, ◌++◌, ℕ, zero, suc, ◌+◌, ◌/◌, ◌%◌, ltb, get_or, Result, Ok, Err}
use Rattle.notation.specs.Ascii.{bytes}
use Rattle.word.specs.declared.Parts.{Parts}
use Rattle.folder.specs.declared.Refusal.{Refusal}
use Rattle.folder.specs.declared.Refusal.TheVariants.{Unread, TooLarge}

-- a decimal digit's character
abbrev pub digit : ℕ → ℕ
digit d = 48 + d

-- A number in decimal, without leading zeros: below ten its digit, else the numeral of its tens and then the digit of its ones. `bound` is at least
-- the number of digits less one.
unfoldable pub numeral_within : (bound n : ℕ) → List ℕ
numeral_within zero n = digit n ∷ []
numeral_within (suc bound) n = elim (ltb n 10) [ true ↦ digit n ∷ [] | false ↦ numeral_within bound (n / 10) ++ digit (n % 10) ∷ [] ]

abbrev pub numeral : ℕ → List ℕ
numeral n = numeral_within n n

-- a number after others
abbrev pub next : ℕ → List ℕ
next n = bytes " " ++ numeral n

-- Six numbers with a blank between each two, and a line feed: file, kind and field; record, sub and offset.
abbrev pub rule_text : Parts → List ℕ
rule_text p = numeral p.file ++ next p.kind ++ next p.field

abbrev pub place_text : Parts → List ℕ
place_text p = next p.«record» ++ next p.sub ++ next p.offset ++ bytes "\n"

abbrev pub parts_line : Parts → List ℕ
parts_line p = rule_text p ++ place_text p

-- the whole output; no byte where there is no answer
unfoldable pub line_of : Result Parts Refusal → List ℕ
line_of (Err Unread) = []
line_of (Err TooLarge) = bytes "too large\n"
line_of (Ok p) = parts_line p

-- the standard names, in the order of the set
unfoldable pub names : List (List ℕ)
names =
    bytes "vehicle_types.json"
    ∷ bytes "station_information.json"
    ∷ bytes "station_status.json"
    ∷ bytes "free_bike_status.json"
    ∷ bytes "system_pricing_plans.json"
    ∷ bytes "geofencing_zones.json"
    ∷ bytes "system_information.json"
    ∷ bytes "system_regions.json"
    ∷ []

-- the name of a file by its place in the set, counted from 0
unfoldable pub name_of : ℕ → List ℕ
name_of i = get_or names i []
