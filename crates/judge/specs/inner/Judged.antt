-- What each function of the judge answers: the least fault of a part of the file, wherever the table's lines tell of that part.
use Rattle.std.specs.Prelude.{true, List, [], ◌∷◌, ◌≡◌, ℕ, ◌+◌, ◌≤◌, ◌<◌, eqb, length, get_or, Option, None}
use Prim.Native.Char.{code}
use Rattle.notation.specs.Choice.{◌⇒◌else◌}
use Rattle.word.specs.Kinds.{name_twice, missing as absent}
use Rattle.json_text.specs.Tree.{Json, Members}
use Rattle.walk.specs.declared.ValueKind.{ValueKind}
use Rattle.walk.specs.declared.ValueKind.TheVariants as kind
use Rattle.walk.specs.Walk.{part}
use Rattle.walk.specs.Part.{Whole}
use Rattle.schema.specs.declared.Line.{Line}
use Rattle.schema.specs.Shape as shape
use Rattle.schema.specs.Shape.{Shape, Rows, Need, Numbering}
use Rattle.schema.specs.inner.Line.{inside, value_letter, shape_words, words_at, line_at}
use Rattle.schema.specs.Pick.{Slot, missing, once, twice, unless_empty, pick, pick_rows}
use Rattle.schema.specs.inner.Sound.{distinct_rows}
use Rattle.schema.specs.Tables.{sheets}
use Rattle.schema.proofs.Walk.{Laid, LaidIn, lines_in}
use Rattle.slots.specs.declared.Found.{Found}
use Rattle.slots.specs.declared.Found.TheVariants.{Missing, Once, Twice}
use Rattle.slots.specs.declared.Slots.{Slots}
use Rattle.slots.specs.inner.Rows.{line_count, most_rows, names_in, line_names, row_line}
use Rattle.slots.specs.inner.Slots.{slot_at, gathered}
use Rattle.fault.specs.declared.Fault.{Fault}
use Rattle.fault.specs.Fault.{least, faulty}
use Rattle.fault.specs.declared.Place.{Place}
use Rattle.judge.specs.Faults.{absence, faults, row_faults}
use Rattle.judge.specs.inner.Judgeable.{judgeable, judgeable_rows}

-- the letter of what has brackets, by a value's kind
abbrev pub brackets_of : ValueKind → ℕ
brackets_of kind.Null = 0
brackets_of kind.Boolean = 0
brackets_of kind.Number = 0
brackets_of kind.String = 0
brackets_of kind.Array = code "["
brackets_of kind.Object = code "{"

-- whether a member must be there, by its letter
abbrev pub absence_of : ℕ → List ℕ
absence_of letter = eqb letter (code "R") ⇒ absent ∷ [] else []

-- the place of an array's n-th item, by the numbering's letter
abbrev pub item_place_of : (letter n : ℕ) → Place → Place
item_place_of letter n q =
    eqb letter (code "r") ⇒ record { «record» = n; sub = q.sub } else
    eqb letter (code "s") ⇒ record { «record» = q.«record»; sub = n } else q

-- faults of a member, by what an object holds under its name
abbrev pub member_faults : Need → Shape → Place → ℕ → Slot Json → List Fault
member_faults need σ q field missing = faulty q field (absence need)
member_faults need σ q field (once x) = faults σ q field (pick σ x)
member_faults need σ q field twice = faulty q field (name_twice ∷ [])

-- line i tells of a value of this shape, whose letter is given
pub record LineTells (i letter : ℕ) (σ : Shape) : Type 0 where
  pub there : i < line_count
  pub lettered : value_letter σ ≡ letter
  pub words : words_at sheets i ≡ shape_words σ
  pub inner : LaidIn sheets (i + 1) σ
  pub lines : (line_at sheets i).inside ≡ length (inside σ)

-- the row that line i is of
pub record RowAt (i : ℕ) : Type 0 where
  pub field : ℕ
  pub need : Need
  pub name : List ℕ
  pub value : Shape
  pub below : Rows
  pub laid : Laid sheets i (shape.row field need name value below)

-- the array that the row of line i holds
pub record ArrayAt (i : ℕ) : Type 0 where
  pub numbering : Numbering
  pub most : ℕ
  pub item : Shape
  pub row : RowAt i
  pub is : row.value ≡ shape.array numbering most item

-- a value that is no array
pub record Single (p : List ℕ) (letter i : ℕ) (q : Place) (level : ℕ) (r : Option Fault) : Type 0 where
  pub is : (σ : Shape) → LineTells i letter σ → (letter ≡ code "[" → ⊥) → judgeable σ level ≡ true → (x : Json) → Whole p x →
      r ≡ least (faults σ q (line_at sheets i).field (pick σ x))

pub record Array (p : List ℕ) (i : ℕ) (q : Place) (level : ℕ) (r : Option Fault) : Type 0 where
  pub is : (a : ArrayAt i) → let σ = shape.array a.numbering a.most a.item in judgeable σ level ≡ true → (x : Json) → Whole p x →
      r ≡ least (faults σ q a.row.field (pick σ x))

-- a member's value
pub record Member (p : List ℕ) (i : ℕ) (q : Place) (level : ℕ) (r : Option Fault) : Type 0 where
  pub is : (a : RowAt i) → judgeable a.value level ≡ true → (x : Json) → Whole p x →
      r ≡ least (member_faults a.need a.value q a.field (unless_empty x))

-- what a row breaks first, by what the object holds under its name, and by what the value breaks that was met first
abbrev pub row_least : Found → Option Fault → Line → Place → Option Fault
row_least Missing value line q = least (faulty q line.field (absence_of line.need))
row_least (Once from upto) value line q = value
row_least Twice value line q = least (faulty q line.field (name_twice ∷ []))

-- the slots of rows that begin at line `first`: each row that is met once in the object p has the least of its member
pub record Kept (p : List ℕ) (first : ℕ) (q : Place) (level : ℕ) (s : Slots) (leasts : List (Option Fault)) : Type 0 where
  pub is : (j from upto : ℕ) → j < most_rows → slot_at s j ≡ Once from upto → Member (part p from upto) (row_line sheets first j) q level (get_or leasts j None)

-- rows that the judge can go by, at these lines
pub record Listed (first count level : ℕ) (rows : Rows) : Type 0 where
  pub laid : Laid sheets first rows
  pub lines : lines_in rows ≡ count
  pub distinct : distinct_rows rows ≡ true
  pub few : length (names_in rows) ≤ most_rows
  pub judgeable-rest : judgeable_rows rows level ≡ true

-- all rows, by the slots that an object's members filled
pub record RowsJudged (slots : Slots) (leasts : List (Option Fault)) (first count : ℕ) (q : Place) (r : Option Fault) : Type 0 where
  pub is : (p : List ℕ) (level : ℕ) (rows : Rows) → Listed first count level rows → (ms : Members) → Whole p (Json.object ms) →
      slots ≡ gathered p (line_names first count) → Kept p first q level slots leasts →
      r ≡ least (row_faults rows q (pick_rows rows ms))

-- all of an object's
pub record MembersJudged (p : List ℕ) (first count : ℕ) (q : Place) (level : ℕ) (r : Option Fault) : Type 0 where
  pub is : (rows : Rows) → Listed first count level rows → (ms : Members) → Whole p (Json.object ms) → r ≡ least (row_faults rows q (pick_rows rows ms))

pub record Object (p : List ℕ) (first count field : ℕ) (q : Place) (level : ℕ) (r : Option Fault) : Type 0 where
  pub is : (rows : Rows) → Laid sheets first rows → lines_in rows ≡ count → judgeable (shape.object rows) level ≡ true → (x : Json) → Whole p x →
      r ≡ least (faults (shape.object rows) q field (pick (shape.object rows) x))
