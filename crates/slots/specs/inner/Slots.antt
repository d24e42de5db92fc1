-- The slots of an object's rows, filled in one pass over its members.
use Rattle.std.specs.Prelude.{Bool, true, false, ◌≡◌, ℕ, ◌≤◌, ◌<◌, ltb, length, get_or, set, replicate}
use mathlib.Core.List.{List, [], foldl}
use Rattle.notation.specs.Choice.{◌⇒◌else◌}
use Rattle.json_text.specs.Tree.{Json, Members}
use Rattle.text.specs.Text.{text_of}
use Rattle.walk.specs.declared.Member.{Member}
use Rattle.walk.specs.Walk.{part, members_of}
use Rattle.walk.specs.Part.{Whole}
use Rattle.schema.specs.Shape.{Rows}
use Rattle.schema.specs.inner.Sound.{distinct_rows}
use Rattle.schema.specs.Tables.{sheets}
use Rattle.schema.proofs.Walk.{Laid, lines_in}
use Rattle.slots.specs.declared.Found.{Found}
use Rattle.slots.specs.declared.Found.TheVariants.{Missing, Once, Twice}
use Rattle.slots.specs.declared.Slots.{Slots}
use Rattle.slots.specs.Found.{one_more, found_in}
use Rattle.slots.specs.inner.Found.{Within}
use Rattle.slots.specs.inner.Rows.{most_rows, names_in, row_named}

-- none filled
abbrev pub empty : Slots
empty = record { rows = replicate most_rows Missing }

-- a slot; of no row past the last one
unfoldable pub slot_at : Slots → ℕ → Found
slot_at s row = ltb row most_rows ⇒ get_or s.rows row Missing else Missing

abbrev pub is_missing : Found → Bool
is_missing Missing = true
is_missing (Once from upto) = false
is_missing Twice = false

-- a row's name was not met yet; those of no row are never new
unfoldable pub new_at : Slots → ℕ → Bool
new_at s row = ltb row most_rows ⇒ is_missing (get_or s.rows row Missing) else false

-- one value more for a row; for no row past the last slot
unfoldable pub put_in : Slots → (row from upto : ℕ) → Slots
put_in s row from upto = ltb row most_rows ⇒ record { rows = set s.rows row (one_more (get_or s.rows row Missing) from upto) } else s

-- a member goes to the row of its name
abbrev pub absorbed : List ℕ → List (List ℕ) → Slots → Member → Slots
absorbed p names s m = put_in s (row_named (text_of (part p m.name m.name_end)) names 0) m.value m.value_end

unfoldable pub gathered : List ℕ → List (List ℕ) → Slots
gathered p names = foldl (absorbed p names) empty (members_of p)

-- `first` and `count` are lines of the table, r the slots that are filled for them from the object p
pub record Gathered (p : List ℕ) (first count : ℕ) (r : Slots) : Type 0 where
  -- whatever rows are laid out there, each slot is what the whole object p holds under its row's name
  pub slot : {ms : Members} → Whole p (Json.object ms) → (rows : Rows) → Laid sheets first rows → lines_in rows ≡ count → distinct_rows rows ≡ true → length (names_in rows) ≤ most_rows →
      (j : ℕ) → j < length (names_in rows) → slot_at r j ≡ found_in p (get_or (names_in rows) j [])
  -- and whatever lines and bytes there are, its places are in p
  pub inside : (j : ℕ) → Within (length p) (slot_at r j)
