-- How marks that records pass are handed on to others with the same id, along an order of the records and back.
use Rattle.std.specs.Prelude.{not, List, ◌≡◌, ℕ, ◌+◌, ◌*◌, ◌≤◌, ◌<◌, eqb, length, get_or, set}
use Rattle.limits.specs.Ceilings.{records}
use Rattle.notation.specs.Choice.{◌⇒◌else◌, ◌and◌}
use Rattle.sorting.specs.Ids.{id_at, Ordered}
use Rattle.sorting.specs.Repeats.{same_id, first_repeat as repeat_in}
use Rattle.sorting.specs.inner.Keys.{Keyed}
use Rattle.walk.specs.Walk.{items_of}
use Rattle.ids.specs.inner.Ids.{record_bytes, first_repeat}
use Rattle.ids.specs.inner.Notes.{size, member_start, pass_at, Noted, Indexed}
use Rattle.ids.specs.inner.Gather.{Settled}

-- the notes, where the record `to` is marked if `from` is and has the same id
unfoldable pub handed : (ids : ℕ → List ℕ) → (notes : List ℕ) → (from to : ℕ) → List ℕ
handed ids notes from to =
    (eqb (pass_at notes from) 1 and not (eqb (pass_at notes to) 1) and same_id ids from to) ⇒
    set notes (2 * records + to) (get_or notes (2 * records + to) 0 + 1) else notes

module _ (p order first : List ℕ) where
  -- records at two places have the same id
  pub record Alike (i j : ℕ) : Type 0 where
    pub some : 0 < length (id_at p first (get_or order j 0))
    pub same : id_at p first (get_or order i 0) ≡ id_at p first (get_or order j 0)

  -- the notes are the first ones, but for marks, each of which is that of a record with the same id
  pub record Marks (notes : List ℕ) : Type 0 where
    pub long : length notes ≡ size
    pub same : (i : ℕ) → i < 2 * records → get_or notes i 0 ≡ get_or first i 0
    pub members : (k : ℕ) → member_start notes k ≡ member_start first k
    pub grows : (k : ℕ) → pass_at first k ≡ 1 → pass_at notes k ≡ 1
    pub from : (k : ℕ) → k < length order → pass_at notes k ≡ 1 → (j : ℕ) × (j < length order) × (id_at p first j ≡ id_at p first k) × (pass_at first j ≡ 1)
    pub other : (k : ℕ) → (pass_at notes k ≡ 1 → ⊥) → pass_at notes k ≡ pass_at first k

  -- a mark is handed on to the next place, for the first i places
  abbrev pub Onward : (notes : List ℕ) (i : ℕ) → Type 0
  Onward notes i = (m : ℕ) → m + 1 < i → m + 1 < length order → Alike m (m + 1) → pass_at notes (get_or order m 0) ≡ 1 → pass_at notes (get_or order (m + 1) 0) ≡ 1

  -- and to the one before, from the place i on
  abbrev pub Back : (notes : List ℕ) (i : ℕ) → Type 0
  Back notes i = (m : ℕ) → i ≤ m + 1 → m + 1 < length order → Alike m (m + 1) → pass_at notes (get_or order (m + 1) 0) ≡ 1 → pass_at notes (get_or order m 0) ≡ 1

  pub record Closed (notes : List ℕ) : Type 0 where
    pub marks : Marks notes
    pub on : Onward notes (length order)
    pub back : Back notes 0

-- n records are in order, by what the first notes tell of their ids
pub record Sorted (p : List ℕ) (n : ℕ) (first notes : List ℕ) : Type 0 where
  pub order : List ℕ
  pub long : length order ≡ n
  pub ordered : Ordered (id_at p first) order
  pub front : ℕ
  pub keys : List ℕ
  pub keyed : Keyed (id_at p first) n front keys
  pub between : List ℕ
  pub closed : Closed p order first between
  pub settled : Settled order keys front between notes

-- n records are in this order and have these keys, and r is the number of the first that repeats an id, counted from 1, or 0
pub record Arranged (p notes : List ℕ) (n front : ℕ) (keys order : List ℕ) (r : ℕ) : Type 0 where
  pub long : length order ≡ n
  pub ordered : Ordered (id_at p notes) order
  pub keyed : Keyed (id_at p notes) n front keys
  pub all : length keys ≡ n
  pub first : r ≡ repeat_in (id_at p notes) n

abbrev pub SortedBy : (p : List ℕ) (n : ℕ) (first notes : List ℕ) (r : ℕ) → Type 0
SortedBy p n first notes r = (r ≡ repeat_in (id_at p first) n) × Sorted p n first notes

-- of any file whose n records are entered and all: r tells the first that repeats an id, and all are noted
abbrev pub Orders : (p : List ℕ) (n : ℕ) (first notes : List ℕ) (r : ℕ) → Type 0
Orders p n first notes r = (sheet : ℕ) → Noted sheet p n first → n ≡ length (items_of p) → (r ≡ first_repeat sheet (record_bytes p)) × Indexed sheet p notes
