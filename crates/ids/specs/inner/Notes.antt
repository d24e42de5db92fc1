-- What is noted of the records of an array, in one list of numbers: three columns with a number for each record, how many records there are, and how many
-- bytes all their ids begin with alike. While records are entered, by their numbers, the first column tells where the texts of their ids begin. Once they are
-- in order, the columns stand in the order of the ids, and the first one has the keys of the ids. The others tell where a record starts, and, doubled, where
-- the member of its id is looked for, with 1 more where the record passes the test that its file's references are asked about.
use Rattle.std.specs.Prelude.{Bool, true, false, ◌≡◌, ℕ, ◌+◌, ◌*◌, ◌/◌, ◌%◌, ◌≤◌, ◌<◌, length, get_or, set, None, Some}
use mathlib.Core.List.{List, [], Memᴰ}
use Rattle.limits.specs.Ceilings.{records, file_bytes}
use Rattle.sorting.specs.Sorting.{sorted, numbers}
use Rattle.sorting.specs.Ids.{id_at, not_after}
use Rattle.sorting.specs.inner.Keys.{Keyed}
use Rattle.walk.specs.declared.Item.{Item}
use Rattle.walk.specs.Walk.{items_of}
use Rattle.walk.specs.Part.{Whole, part_tree}
use Rattle.walk.proofs.Parts.{item_of}
use Rattle.ids.specs.inner.Ids.{id_of, ids_of, NoIdBefore, IdOnce, record_bytes, passing, any_meets}

-- how many numbers in all
abbrev pub size : ℕ
size = 3 * records + 2

-- of the entry j: where the record starts, where in it the member of its id is looked for, and whether it passes
abbrev pub start_at : List ℕ → ℕ → ℕ
start_at notes j = get_or notes (records + j) 0

abbrev pub member_start : List ℕ → ℕ → ℕ
member_start notes j = get_or notes (2 * records + j) 0 / 2

abbrev pub pass_at : List ℕ → ℕ → ℕ
pass_at notes j = get_or notes (2 * records + j) 0 % 2

-- of all records
abbrev pub count_in : List ℕ → ℕ
count_in notes = get_or notes (3 * records) 0

abbrev pub skip_in : List ℕ → ℕ
skip_in notes = get_or notes (3 * records + 1) 0

-- a truth as it is noted
abbrev pub bit : Bool → ℕ
bit true = 1
bit false = 0

-- the notes with the record n entered
unfoldable pub entered : (notes : List ℕ) → (n place start member pass : ℕ) → List ℕ
entered notes n place start member pass = set (set (set notes n place) (records + n) start) (2 * records + n) (2 * member + pass)

-- the places tell where the record q of p starts, and where the member of its id is looked for; nothing of p is there where it has none
pub data Entry (sheet : ℕ) (p q : List ℕ) (start member : ℕ) : Type 0 where
  without : id_of sheet q ≡ None → length p ≤ start → Entry sheet p q start member
  within : {id : List ℕ} → id_of sheet q ≡ Some id → (m : Item) → Memᴰ m (items_of p) → item_of p m ≡ q → m.value ≡ start → NoIdBefore sheet q member
      → Entry sheet p q start member

-- m is the item of p behind n others: an object in which the name of the file's ids stands once at most
pub record Next (sheet : ℕ) (p : List ℕ) (n : ℕ) (m : Item) : Type 0 where
  pub room : n < records
  pub short : length p ≤ file_bytes
  pub starts : m.value ≤ m.value_end
  pub ends : m.value_end ≤ length p
  pub among : Memᴰ m (items_of p)
  pub whole : Whole (item_of p m) (part_tree (item_of p m))
  pub single : IdOnce sheet (item_of p m)
  pub is : item_of p m ≡ get_or (record_bytes p) n []

-- the first n records of p are entered
pub record Noted (sheet : ℕ) (p : List ℕ) (n : ℕ) (notes : List ℕ) : Type 0 where
  pub long : length notes ≡ size
  pub few : n ≤ records
  pub entries : (j : ℕ) → j < n → Entry sheet p (get_or (record_bytes p) j []) (start_at notes j) (member_start notes j)
  pub texts : (j : ℕ) → j < n → id_at p notes j ≡ ids_of sheet p j
  pub tests : (j : ℕ) → j < n → pass_at notes j ≡ bit (passing sheet (get_or (record_bytes p) j []))

-- the records of p in the order of their ids, and the one at the place i
unfoldable pub in_order : ℕ → List ℕ → List ℕ
in_order sheet p = sorted (not_after (ids_of sheet p)) (numbers 0 (length (items_of p)))

abbrev pub record_at : ℕ → List ℕ → ℕ → ℕ
record_at sheet p i = get_or (in_order sheet p) i 0

-- the text of its id
abbrev pub id_in_order : ℕ → List ℕ → ℕ → List ℕ
id_in_order sheet p i = ids_of sheet p (record_at sheet p i)

-- the mark tells whether some record with the id of the record k passes
abbrev pub Spread : (sheet : ℕ) (p : List ℕ) (mark k : ℕ) → Type 0
Spread sheet p mark k = 0 < length (ids_of sheet p k) → mark ≡ bit (any_meets sheet true (ids_of sheet p k) (record_bytes p) (length (items_of p)))

-- all records of p are noted, and in order
pub record Indexed (sheet : ℕ) (p notes : List ℕ) : Type 0 where
  pub long : length notes ≡ size
  pub few : length (items_of p) ≤ records
  pub count : count_in notes ≡ length (items_of p)
  pub keyed : Keyed (id_in_order sheet p) (length (items_of p)) (skip_in notes) notes
  pub entries : (i : ℕ) → i < length (items_of p) → Entry sheet p (get_or (record_bytes p) (record_at sheet p i) []) (start_at notes i) (member_start notes i)
  pub spread : (i : ℕ) → i < length (items_of p) → Spread sheet p (pass_at notes i) (record_at sheet p i)
