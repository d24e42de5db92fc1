-- A table in lines: the rows of all files in one list, each with the rows of the object inside it right behind it. So that object's
-- first row is one line on, and the next row of the same object is past as many lines as stand inside.
use mathlib.Core.List.{List, [], ◌∷◌, ◌++◌, map, flatten}
use Prim.Native.Char.{code}
use Rattle.std.specs.Prelude.{ℕ, ◌+◌, ◌*◌, ◌/◌, ◌%◌, length, get_or}
use Rattle.schema.specs.Shape as shape
use Rattle.schema.specs.Shape.{Shape, Rows, Table, Sort, Need, Numbering}
use Rattle.schema.specs.Later.{item_shape}
use Rattle.schema.specs.inner.Names.{number_in, once_each, place_count, places_of}
use Rattle.schema.specs.declared.Line.{Line}
use Rattle.schema.specs.declared.Range.{Range}

-- a row, without the rows below it
pub record Entry : Type 0 where
  pub field : ℕ
  pub need : Need
  pub name : List ℕ
  pub shape : Shape

unfoldable mutual
  -- the rows inside a value
  pub inside : Shape → List Entry
  inside shape.unlisted = []
  inside (shape.scalar sort) = []
  inside (shape.array numbering most σ) = inside σ
  inside (shape.object rows) = entries rows

  pub entries : Rows → List Entry
  entries shape.no_row = []
  entries (shape.row field need name σ rows) =
      record { field = field; need = need; name = name; shape = σ } ∷ (inside σ ++ entries rows)

-- those of each file, and of all files
unfoldable pub file_entries : Table → List (List Entry)
file_entries t = map inside t

unfoldable pub entries_of : Table → List Entry
entries_of t = flatten (file_entries t)

-- What a line says, by letters: the table's own where it has one.
abbrev pub need_letter : Need → ℕ
need_letter shape.required = code "R"
need_letter shape.optional = code "O"
need_letter shape.conditional = code "C"

abbrev pub sort_letter : Sort → ℕ
sort_letter shape.timestamp = code "T"
sort_letter shape.integer = code "N"
sort_letter shape.amount = code "F"
sort_letter shape.portion = code "%"
sort_letter shape.latitude = code "y"
sort_letter shape.longitude = code "x"
sort_letter shape.any_number = code "z"
sort_letter shape.money = code "m"
sort_letter shape.price = code "p"
sort_letter shape.boolean = code "B"
sort_letter shape.text = code "S"
sort_letter shape.id = code "i"
sort_letter shape.currency = code "c"
sort_letter shape.date = code "d"
sort_letter (shape.exactly s) = code "="
sort_letter (shape.word words) = code "w"

abbrev pub value_letter : Shape → ℕ
value_letter shape.unlisted = code "."
value_letter (shape.scalar sort) = sort_letter sort
value_letter (shape.array numbering most σ) = code "["
value_letter (shape.object rows) = code "{"

abbrev pub numbering_letter : Numbering → ℕ
numbering_letter shape.records = code "r"
numbering_letter shape.subs = code "s"
numbering_letter shape.outer = code "o"
numbering_letter shape.positions = code "p"

-- how the items of an array are numbered, and how many it may have
abbrev pub item_numbers : Shape → ℕ
item_numbers shape.unlisted = code "."
item_numbers (shape.scalar sort) = code "."
item_numbers (shape.array numbering most σ) = numbering_letter numbering
item_numbers (shape.object rows) = code "."

abbrev pub most_items : Shape → ℕ
most_items shape.unlisted = 0
most_items (shape.scalar sort) = 0
most_items (shape.array numbering most σ) = most
most_items (shape.object rows) = 0

abbrev pub line_of : Entry → Line
line_of e =
    record {
      field = e.field;
      need = need_letter e.need;
      value = value_letter e.shape;
      item = value_letter (item_shape e.shape);
      numbering = item_numbers e.shape;
      most = most_items e.shape;
      inside = length (inside e.shape);
    }

-- past the last line
abbrev pub no_line : Line
no_line = record { field = 0; need = 0; value = 0; item = 0; numbering = 0; most = 0; inside = 0 }

unfoldable pub lines_of : Table → List Line
lines_of t = map line_of (entries_of t)

abbrev pub line_at : Table → ℕ → Line
line_at t i = get_or (lines_of t) i no_line

-- Where each of several lists stands once they are laid one after the other: its first place, and how many places it takes.
unfoldable pub ranges_from : {A : Type 0} → ℕ → List (List A) → List Range
ranges_from k [] = []
ranges_from k (x ∷ xs) = record { first = k; count = length x } ∷ ranges_from (k + length x) xs

abbrev pub nowhere : Range
nowhere = record { first = 0; count = 0 }

abbrev pub range_at : {A : Type 0} → List (List A) → ℕ → Range
range_at xs i = get_or (ranges_from 0 xs) i nowhere

-- the lines' names
unfoldable pub names_of : Table → List (List ℕ)
names_of t = map (λ e. e.name) (entries_of t)

abbrev pub name_at : Table → ℕ → List ℕ
name_at t i = get_or (names_of t) i []

-- Names by number: each of them once, the first with the number 1; the number of a text, 0 where it is no name; and the number of each line's name.
unfoldable pub each_name : Table → List (List ℕ)
each_name t = once_each [] (names_of t)

abbrev pub number_of : Table → List ℕ → ℕ
number_of t x = number_in (each_name t) x

unfoldable pub numbers_of : Table → List ℕ
numbers_of t = map (number_in (each_name t)) (names_of t)

abbrev pub number_at : Table → ℕ → ℕ
number_at t i = get_or (numbers_of t) i 0

-- The bytes of the table: the same number for each line; where each name stands, by number; the places; and all names one after the other. A number that may pass
-- 255 has two bytes, the lower one first.

-- how many bytes a line has, and the range of a name
abbrev pub line_bytes : ℕ
line_bytes = 9

abbrev pub range_bytes : ℕ
range_bytes = 3

-- a line's bytes: what it says, and the number of its name
abbrev pub bytes_in : Line → ℕ → List ℕ
bytes_in line number =
    line.field ∷ line.need ∷ line.value ∷ line.item ∷ line.numbering ∷ line.most % 256 ∷ line.most / 256 ∷ line.inside ∷ number ∷ []

unfoldable pub line_rows : List Line → List ℕ → List (List ℕ)
line_rows [] numbers = []
line_rows (line ∷ lines) [] = []
line_rows (line ∷ lines) (number ∷ numbers) = bytes_in line number ∷ line_rows lines numbers

abbrev pub range_in : Range → List ℕ
range_in r = r.first % 256 ∷ r.first / 256 ∷ r.count ∷ []

-- where the ranges, the places and the names begin
abbrev pub ranges_at : Table → ℕ
ranges_at t = line_bytes * length (lines_of t)

abbrev pub places_at : Table → ℕ
places_at t = ranges_at t + range_bytes * (length (each_name t) + 1)

abbrev pub names_from : Table → ℕ
names_from t = places_at t + place_count

-- where each name stands; the number 0, which no name has, stands for no bytes
abbrev pub name_ranges : Table → List Range
name_ranges t = ranges_from (names_from t) ([] ∷ each_name t)

abbrev pub name_range_by : Table → ℕ → Range
name_range_by t number = get_or (name_ranges t) number nowhere

unfoldable pub bytes_of : Table → List ℕ
bytes_of t =
    flatten (line_rows (lines_of t) (numbers_of t)) ++
    (flatten (map range_in (name_ranges t)) ++
    (places_of (each_name t) ++ flatten ([] ∷ each_name t)))

-- the words that a line's value is held to: all of an enum's, or the one text
abbrev pub sort_words : Sort → List (List ℕ)
sort_words shape.timestamp = []
sort_words shape.integer = []
sort_words shape.amount = []
sort_words shape.portion = []
sort_words shape.latitude = []
sort_words shape.longitude = []
sort_words shape.any_number = []
sort_words shape.money = []
sort_words shape.price = []
sort_words shape.boolean = []
sort_words shape.text = []
sort_words shape.id = []
sort_words shape.currency = []
sort_words shape.date = []
sort_words (shape.exactly s) = s ∷ []
sort_words (shape.word words) = words

abbrev pub shape_words : Shape → List (List ℕ)
shape_words shape.unlisted = []
shape_words (shape.scalar sort) = sort_words sort
shape_words (shape.array numbering most σ) = []
shape_words (shape.object rows) = []

unfoldable pub line_words : Table → List (List (List ℕ))
line_words t = map (λ e. shape_words e.shape) (entries_of t)

-- the words of a line; and all words of the table in one list, the lines' words one after the other
abbrev pub words_at : Table → ℕ → List (List ℕ)
words_at t i = get_or (line_words t) i []

unfoldable pub words_of : Table → List (List ℕ)
words_of t = flatten (line_words t)

abbrev pub word_at : Table → ℕ → List ℕ
word_at t k = get_or (words_of t) k []

-- the lines of each file, and of no file before the first
unfoldable pub file_ranges : Table → List Range
file_ranges t = nowhere ∷ ranges_from 0 (file_entries t)

abbrev pub file_lines : Table → ℕ → Range
file_lines t file = get_or (file_ranges t) file nowhere

-- names all that lines, names and words are computed with
unfoldable pub laid_out : Unit {0}
unfolding file_ranges ranges_from flatten lines_of names_of each_name numbers_of line_rows bytes_of line_words words_of entries_of file_entries inside item_shape
laid_out = tt
