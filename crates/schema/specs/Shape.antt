-- Field tables: the members that an object lists, and what may stand in each. A table is a value like any other, and whatever picks,
-- judges or answers is handed one.
use Rattle.std.specs.Prelude.{List, ◌∷◌, ℕ, get_or}
use Prim.Native.String.{String}
use Rattle.notation.specs.Ascii.{bytes}

-- what a value may be, by document 01's letters and words
pub data Sort : Type 0 where
  -- T and N: an integer that is at least 0
  timestamp integer : Sort
  -- F: a number that is at least 0; 0 to 1; lat and lon; any number
  amount portion latitude longitude any_number : Sort
  -- money; and a price: money that is at least 0, as a number or a string
  money price : Sort
  -- B, S, ids, currencies, dates
  boolean text id currency date : Sort
  -- just this text; one of these words, whatever the case of their letters
  exactly : List ℕ → Sort
  word : List (List ℕ) → Sort
  deriving Discrete as Sort-discrete

pub data Need : Type 0 where
  required optional conditional : Need

-- which number of a fault an item's own number is: the record, the sub, none (the fault keeps the number of what is around the array),
-- or a position's, which counts over the whole zone
pub data Numbering : Type 0 where
  records subs outer positions : Numbering

mutual
  pub data Shape : Type 0 where
    -- the table has nothing here
    unlisted : Shape
    scalar : Sort → Shape
    -- at most so many items, all of one shape
    array : Numbering → (most : ℕ) → Shape → Shape
    object : Rows → Shape

  pub data Rows : Type 0 where
    no_row : Rows
    row : (field : ℕ) → Need → (name : List ℕ) → Shape → Rows → Rows

-- a table: a shape for each file, in their order
abbrev pub Table : Type 0
Table = List Shape

-- the shape of a file, by its number from 1 on; nothing is listed for another number
unfoldable pub file_shape : Table → ℕ → Shape
file_shape t file = get_or (unlisted ∷ t) file unlisted

-- A line of a table: the field's number, R required, O optional or C conditional, the name, and the sort of its value, or what array or object it holds.
infixr 20 ◌·◌·◌∶◌▸◌
abbrev pub ◌·◌·◌∶◌▸◌ : ℕ → Need → String → Sort → Rows → Rows
◌·◌·◌∶◌▸◌ field need name sort rows = row field need (bytes name) (scalar sort) rows

infixr 20 ◌·◌·◌holds◌▸◌
abbrev pub ◌·◌·◌holds◌▸◌ : ℕ → Need → String → Shape → Rows → Rows
◌·◌·◌holds◌▸◌ field need name shape rows = row field need (bytes name) shape rows
