-- What is searched in bytes for the record that a reference names, or of an id. References name records of files 1, 2, 5 and 8; the search is the same in any
-- file whose records have ids.
use Rattle.std.specs.Prelude.{Bool, true, false, ◌≡◌, ℕ, eqb, drop, Option, Some, None}
use mathlib.Core.List.{List, Memᴰ}
use Rattle.notation.specs.Choice.{◌⇒◌else◌}
use Rattle.text.specs.inner.Key.{key_of}
use Rattle.sorting.specs.inner.Keys.{by_keys}
use Rattle.walk.specs.declared.Item.{Item}
use Rattle.walk.specs.Walk.{items_of}
use Rattle.walk.proofs.Parts.{item_of}
use Rattle.schema.specs.Records.{has_ids}
use Rattle.schema.specs.Pick.{Picked}
use Rattle.ids.specs.inner.Ids.{has_id}
use Rattle.ids.specs.inner.Notes.{skip_in, id_in_order, Indexed}
use Rattle.ids.specs.References.{any, has_capacity, motorized}
use Rattle.std.specs.declared.cmp.Ordering.{Ordering}

-- the test of a file's records, by what is picked of one
abbrev pub test_of : ℕ → Picked → Bool
test_of sheet = eqb sheet 1 ⇒ motorized else eqb sheet 2 ⇒ has_capacity else any

abbrev pub tested_of : ℕ → Bool → Picked → Bool
tested_of sheet tested = tested ⇒ test_of sheet else any

-- the records p of a file, which have ids, are noted
pub record Searchable (sheet : ℕ) (p notes : List ℕ) : Type 0 where
  pub ids : has_ids sheet ≡ true
  pub noted : Indexed sheet p notes

-- how the record at a place of the order stands to an id, by what is noted
abbrev pub probe : (sheet : ℕ) (p notes id : List ℕ) → ℕ → Ordering
probe sheet p notes id = by_keys (id_in_order sheet p) notes id (key_of (drop (skip_in notes) id))

-- a record of p that has the id starts there, or none has it
abbrev pub RecordOf : (sheet : ℕ) (p id : List ℕ) → Option ℕ → Type 0
RecordOf sheet p id (Some start) = (m : Item) × Memᴰ m (items_of p) × (m.value ≡ start) × (has_id sheet id (item_of p m) ≡ true)
RecordOf sheet p id None = (m : Item) → Memᴰ m (items_of p) → has_id sheet id (item_of p m) ≡ false
