-- Values of every sort at and past their limits, computed.
use Rattle.std.specs.Prelude.{true, List, [], ◌∷◌, map, refl, ℕ, zero, suc}
use Prim.Native.String.{String}
use Rattle.notation.specs.Ascii.{bytes}
use Rattle.notation.specs.Case.{Case, Answers}
use Rattle.word.specs.Kinds.{wrong_type, number_form, out_of_range}
use Rattle.json_text.specs.Tree as tree
use Rattle.json_text.specs.Tree.{Json}
use Rattle.text.specs.Text.{text_of}
use Rattle.text.specs.Cases.{comparing}
use Rattle.decimal.specs.Cases.{deciding}
use Rattle.calendar.specs.Cases.{dating}
use Rattle.schema.specs.Shape as sort
use Rattle.schema.specs.Shape.{Sort}
use Rattle.schema.specs.Words.{form_factors}
use Rattle.scalar.specs.Scalars.{formed_kinds, any_money, price_money, pricing, any_word, capitals, currency, kinds_of, sort_kinds}

-- opens every definition of this layer
unfoldable pub judging : Unit {0}
unfolding comparing deciding dating formed_kinds any_money price_money pricing any_word capitals currency sort_kinds kinds_of
judging = tt

-- what a value says against a sort: nothing is wrong, or one of three kinds
abbrev sound : List ℕ
sound = []

abbrev mistyped : List ℕ
mistyped = wrong_type ∷ []

abbrev unformed : List ℕ
unformed = number_form ∷ []

abbrev astray : List ℕ
astray = out_of_range ∷ []

abbrev numbers : List (Case (Sort × String) (List ℕ))
numbers =
    -- integers: a point comes before everything else, then the form, then the range
    ("an integer", (sort.integer, "0"), sound) ∷
    ("−0", (sort.integer, "-0"), sound) ∷
    ("twelve digits", (sort.integer, "123456789012"), sound) ∷
    ("a point", (sort.integer, "1.0"), mistyped) ∷
    ("a point below zero", (sort.integer, "-1.5"), mistyped) ∷
    ("a point and an exponent", (sort.integer, "1.5e1"), mistyped) ∷
    ("a point and nineteen decimals", (sort.integer, "1.0000000000000000000"), mistyped) ∷
    ("a point behind thirteen digits", (sort.integer, "1234567890123.5"), mistyped) ∷
    ("an exponent", (sort.integer, "1e1"), unformed) ∷
    ("an exponent below zero", (sort.integer, "-1E0"), unformed) ∷
    ("thirteen digits", (sort.integer, "1234567890123"), unformed) ∷
    ("thirteen digits below zero", (sort.integer, "-1234567890123"), unformed) ∷
    ("below zero", (sort.integer, "-1"), astray) ∷
    ("twelve digits below zero", (sort.integer, "-123456789012"), astray) ∷
    ("a timestamp", (sort.timestamp, "1700000000"), sound) ∷
    ("before 1970", (sort.timestamp, "-1"), astray) ∷
    ("a timestamp with a point", (sort.timestamp, "1.0"), mistyped) ∷
    ("with an exponent", (sort.timestamp, "1e9"), unformed) ∷
    -- other numbers
    ("an amount of nothing", (sort.amount, "0"), sound) ∷
    ("a fraction", (sort.amount, "0.5"), sound) ∷
    ("below zero by the last digit", (sort.amount, "-0.000000000000000001"), astray) ∷
    ("an exponent", (sort.amount, "1e1"), unformed) ∷
    ("no portion", (sort.portion, "0"), sound) ∷
    ("the whole", (sort.portion, "1"), sound) ∷
    ("more by the last digit", (sort.portion, "1.000000000000000001"), astray) ∷
    ("less than none", (sort.portion, "-0.1"), astray) ∷
    ("nineteen decimals", (sort.portion, "0.0000000000000000001"), unformed) ∷
    ("the greatest latitude", (sort.latitude, "90"), sound) ∷
    ("the least", (sort.latitude, "-90.0"), sound) ∷
    ("past the greatest by the last digit", (sort.latitude, "90.000000000000000001"), astray) ∷
    ("below the least", (sort.latitude, "-91"), astray) ∷
    ("an exponent", (sort.latitude, "9e1"), unformed) ∷
    ("the greatest longitude", (sort.longitude, "180"), sound) ∷
    ("the least", (sort.longitude, "-180"), sound) ∷
    ("past the greatest", (sort.longitude, "180.00000001"), astray) ∷
    ("below the least", (sort.longitude, "-181"), astray) ∷
    ("an exponent", (sort.longitude, "18e1"), unformed) ∷
    ("a third number of any size", (sort.any_number, "-1e400"), sound) ∷
    ("of any length", (sort.any_number, "12345678901234567890"), sound) ∷
    ("a million", (sort.money, "1000000"), sound) ∷
    ("a million below zero", (sort.money, "-1000000"), sound) ∷
    ("zeros behind ten-thousandths", (sort.money, "0.25000"), sound) ∷
    ("more than a million", (sort.money, "1000000.0001"), astray) ∷
    ("half a ten-thousandth", (sort.money, "0.00005"), astray) ∷
    ("an exponent", (sort.money, "1e1"), unformed) ∷
    ("a price", (sort.price, "1.5"), sound) ∷
    ("of a million", (sort.price, "1000000"), sound) ∷
    ("below zero", (sort.price, "-0.5"), astray) ∷
    ("more than a million", (sort.price, "1000000.0001"), astray) ∷
    ("thirteen digits", (sort.price, "1234567890123"), unformed) ∷
    []

numbers-answered : Answers (λ c. kinds_of c.0 (tree.number (bytes c.1))) numbers
unfolding judging
numbers-answered = refl

-- strings as spelled between their quotation marks
abbrev feature : Sort
feature = sort.exactly (bytes "Feature")

abbrev form_factor : Sort
form_factor = sort.word form_factors

abbrev strings : List (Case (Sort × String) (List ℕ))
strings =
    -- prices: a number without sign and exponent
    ("a price in quotation marks", (sort.price, "1.5"), sound) ∷
    ("with an escape", (sort.price, "\\u0031.5"), sound) ∷
    ("of a million", (sort.price, "1000000"), sound) ∷
    ("an exponent", (sort.price, "1e1"), astray) ∷
    ("a sign", (sort.price, "-0"), astray) ∷
    ("nothing", (sort.price, ""), astray) ∷
    ("a blank", (sort.price, " 1"), astray) ∷
    ("thirteen digits and an exponent", (sort.price, "1234567890123e1"), astray) ∷
    ("more than a million", (sort.price, "1000000.0001"), astray) ∷
    ("half a ten-thousandth", (sort.price, "0.00005"), astray) ∷
    ("thirteen digits", (sort.price, "1234567890123"), unformed) ∷
    ("nineteen decimals", (sort.price, "1.0000000000000000000"), unformed) ∷
    ("a currency of three capitals", (sort.currency, "EUR"), sound) ∷
    ("one of them escaped", (sort.currency, "E\\u0055R"), sound) ∷
    ("small letters", (sort.currency, "eur"), astray) ∷
    ("four letters", (sort.currency, "EURO"), astray) ∷
    ("two", (sort.currency, "EU"), astray) ∷
    ("none", (sort.currency, ""), astray) ∷
    ("a real date", (sort.date, "2024-02-29"), sound) ∷
    ("with an escape", (sort.date, "2024\\u002d02-29"), sound) ∷
    ("no real date", (sort.date, "2023-02-29"), astray) ∷
    ("and more", (sort.date, "2024-02-29T"), astray) ∷
    ("none", (sort.date, ""), astray) ∷
    ("just one text", (feature, "Feature"), sound) ∷
    ("with an escape", (feature, "F\\u0065ature"), sound) ∷
    ("in another case", (feature, "feature"), astray) ∷
    ("and more", (feature, "Features"), astray) ∷
    ("one of the words", (form_factor, "bicycle"), sound) ∷
    ("in another case", (form_factor, "Bicycle"), sound) ∷
    ("another word, in several cases", (form_factor, "SCOOTER_seated"), sound) ∷
    ("and more", (form_factor, "bicycles"), astray) ∷
    ("less", (form_factor, "bi"), astray) ∷
    ("no word", (form_factor, ""), astray) ∷
    ("no text", (sort.text, ""), sound) ∷
    ("any text", (sort.text, "any\\u0000"), sound) ∷
    []

strings-answered : Answers (λ c. kinds_of c.0 (tree.string (text_of (bytes c.1)))) strings
unfolding judging form_factors
strings-answered = refl

-- ids, by how many bytes they have when they are decoded
unfoldable letters : ℕ → List ℕ
letters zero = []
letters (suc n) = 0x61 ∷ letters n

abbrev ids : List (Case ℕ (List ℕ))
ids =
    ("none", 0, sound) ∷
    ("as many as may be", 100, sound) ∷
    ("one more", 101, astray) ∷
    []

ids-answered : Answers (λ n. kinds_of sort.id (tree.string (letters n))) ids
unfolding judging letters
ids-answered = refl

-- what each sort says of a number, a string, true, null, an array and an object
abbrev values : List Json
values = tree.number (bytes "1") ∷ tree.string (bytes "!") ∷ tree.boolean true ∷ tree.null ∷ tree.array tree.no_item ∷ tree.object tree.no_member ∷ []

abbrev numeric : List (List ℕ)
numeric = sound ∷ mistyped ∷ mistyped ∷ mistyped ∷ mistyped ∷ mistyped ∷ []

abbrev textual : List ℕ → List (List ℕ)
textual k = mistyped ∷ k ∷ mistyped ∷ mistyped ∷ mistyped ∷ mistyped ∷ []

abbrev types : List (Case Sort (List (List ℕ)))
types =
    ("timestamp", sort.timestamp, numeric) ∷
    ("integer", sort.integer, numeric) ∷
    ("amount", sort.amount, numeric) ∷
    ("portion", sort.portion, numeric) ∷
    ("latitude", sort.latitude, numeric) ∷
    ("longitude", sort.longitude, numeric) ∷
    ("third number of a position", sort.any_number, numeric) ∷
    ("money", sort.money, numeric) ∷
    ("price", sort.price, sound ∷ astray ∷ mistyped ∷ mistyped ∷ mistyped ∷ mistyped ∷ []) ∷
    ("text", sort.text, textual sound) ∷
    ("id", sort.id, textual sound) ∷
    ("currency", sort.currency, textual astray) ∷
    ("date", sort.date, textual astray) ∷
    ("one text", sort.exactly (bytes "2.3"), textual astray) ∷
    ("words", sort.word (bytes "human" ∷ []), textual astray) ∷
    ("boolean", sort.boolean, mistyped ∷ mistyped ∷ sound ∷ mistyped ∷ mistyped ∷ mistyped ∷ []) ∷
    []

types-answered : Answers (λ σ. map (kinds_of σ) values) types
unfolding judging
types-answered = refl
