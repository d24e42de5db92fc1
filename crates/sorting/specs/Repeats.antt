-- The first record that repeats an id: records by their ids, of which no bytes are none.
use Rattle.std.specs.Prelude.{Bool, true, false, List, ℕ, zero, suc, ◌+◌, ltb, length}
use Rattle.notation.specs.Choice.{◌⇒◌else◌, ◌and◌}
use Rattle.text.specs.Text.{same}

-- the record j has an id, and the record i has the same
unfoldable pub same_id : (ids : ℕ → List ℕ) → (i j : ℕ) → Bool
same_id ids i j = ltb 0 (length (ids j)) and same (ids i) (ids j)

-- one of the first n records has the id of the record j
unfoldable pub used_before : (ids : ℕ → List ℕ) → (j n : ℕ) → Bool
used_before ids j zero = false
used_before ids j (suc n) = same_id ids n j ⇒ true else used_before ids j n

-- the number, counted from 1, of the first of n records from k on whose id one before it has; 0 where there is none
unfoldable pub repeat_from : (ids : ℕ → List ℕ) → (k n : ℕ) → ℕ
repeat_from ids k zero = 0
repeat_from ids k (suc n) = used_before ids k k ⇒ k + 1 else repeat_from ids (k + 1) n

abbrev pub first_repeat : (ids : ℕ → List ℕ) → ℕ → ℕ
first_repeat ids n = repeat_from ids 0 n
