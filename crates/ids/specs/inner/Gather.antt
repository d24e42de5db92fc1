-- How the columns of notes are put in an order of the records.
use Rattle.std.specs.Prelude.{List, ◌≡◌, ℕ, ◌+◌, ◌*◌, ◌≤◌, ◌<◌, length, get_or}
use Rattle.limits.specs.Ceilings.{records}
use Rattle.ids.specs.inner.Notes.{size, start_at, count_in, skip_in}

-- the list has numbers of records, as many as it is long
pub record Listing (order : List ℕ) : Type 0 where
  pub few : length order ≤ records
  pub each : (i : ℕ) → i < length order → get_or order i 0 < length order

-- a column behind the first begins there
abbrev pub Column : ℕ → Type 0
Column column = (records ≤ column) × (column ≤ 2 * records)

-- n numbers are written from the place `at` on, as f tells them, and the others stay
pub record Written (at n : ℕ) (f : ℕ → ℕ) (before notes : List ℕ) : Type 0 where
  pub long : length notes ≡ size
  pub is : (i : ℕ) → i < n → get_or notes (at + i) 0 ≡ f i
  pub below : (k : ℕ) → k < at → get_or notes k 0 ≡ get_or before k 0
  pub above : (k : ℕ) → at + n ≤ k → get_or notes k 0 ≡ get_or before k 0

-- a column is in order, and other numbers behind the first column stay
pub record Gathered (order : List ℕ) (column : ℕ) (before notes : List ℕ) : Type 0 where
  pub long : length notes ≡ size
  pub is : (i : ℕ) → i < length order → get_or notes (column + i) 0 ≡ get_or before (column + get_or order i 0) 0
  pub below : (k : ℕ) → records ≤ k → k < column → get_or notes k 0 ≡ get_or before k 0
  pub above : (k : ℕ) → column + records ≤ k → get_or notes k 0 ≡ get_or before k 0

-- all columns are in order, and the first has the keys
pub record Settled (order keys : List ℕ) (front : ℕ) (before notes : List ℕ) : Type 0 where
  pub long : length notes ≡ size
  pub first : (i : ℕ) → i < length order → get_or notes i 0 ≡ get_or keys (get_or order i 0) 0
  pub starts : (i : ℕ) → i < length order → start_at notes i ≡ start_at before (get_or order i 0)
  pub marks : (i : ℕ) → i < length order → get_or notes (2 * records + i) 0 ≡ get_or before (2 * records + get_or order i 0) 0
  pub count : count_in notes ≡ length order
  pub skip : skip_in notes ≡ front
