-- The files of a set, by their bytes: document 01, "The feed set".
use Rattle.std.specs.Prelude.{true, false, List, [], ◌∷◌, map, ℕ, get_or}
use Rattle.std.specs.Borrow.{Bor}
use Rattle.schema.specs.Shape.{Table, file_shape}
use Rattle.clean.specs.Clean.{records_in}
use Rattle.cross.specs.Cross.{File, Files}

-- the byte strings of a set, in the order of their numbers
abbrev pub Feeds : Type 0
Feeds = List (List ℕ)

-- what each of the references is to
abbrev pub contents : List (Bor (List ℕ)) → List (List ℕ)
contents l = map (λ x. x.now) l

-- the bytes of the file with this number, counted from 1; none of 0 and of numbers past the last
abbrev pub bytes_of : Feeds → ℕ → List ℕ
bytes_of s file = get_or ([] ∷ s) file []

-- by a table, what a file has, by its bytes: without any it is absent
abbrev pub file_of : Table → (file : ℕ) → List ℕ → File
file_of t file [] = record { here = false; records = [] }
file_of t file (b ∷ s) = record { here = true; records = records_in (file_shape t file) (b ∷ s) }

abbrev pub picked : Table → Feeds → Files
picked t s file = file_of t file (bytes_of s file)
