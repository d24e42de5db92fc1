-- Where the files of a set stand in the buffer that they are read into: one behind the other, each from its place to the next one's.
use Rattle.std.specs.Prelude.{List, [], ◌∷◌, map, ℕ, ◌+◌, ◌≤◌, ◌<◌, get_or}
use Rattle.walk.specs.Walk.{part}

-- the first files stand in order, and end within this size
abbrev pub InOrder : (files size : ℕ) (places : List ℕ) → Type 0
InOrder files size places = (i : ℕ) → i < files → (get_or places i 0 ≤ get_or places (i + 1) 0) × (get_or places (i + 1) 0 ≤ size)

-- a file by its place in the set, counted from 0
abbrev pub file_in : (bytes places : List ℕ) (i : ℕ) → List ℕ
file_in bytes places i = part bytes (get_or places i 0) (get_or places (i + 1) 0)

abbrev pub set_in : (bytes places : List ℕ) → List (List ℕ)
set_in bytes places = map (file_in bytes places) (0 ∷ 1 ∷ 2 ∷ 3 ∷ 4 ∷ 5 ∷ 6 ∷ 7 ∷ [])
