-- Numbers as bytes in a buffer that the caller lends: eight bytes a number, the least significant first.
use Rattle.std.specs.Prelude.{Bool, List, [], ◌∷◌, ◌++◌, ℕ, zero, suc, ◌*◌, ◌/◌, ◌%◌, leb, length, drop}
use Rattle.notation.specs.Choice.{◌⇒◌else◌}

-- the lowest `size` bytes of n
unfoldable pub low_bytes : (size n : ℕ) → List ℕ
low_bytes zero n = []
low_bytes (suc size) n = n % 256 ∷ low_bytes size (n / 256)

-- each number in eight bytes
unfoldable pub encoded : List ℕ → List ℕ
encoded [] = []
encoded (v ∷ vs) = low_bytes 8 v ++ encoded vs

-- whether the numbers have room in a buffer
unfoldable pub holds : (buffer values : List ℕ) → Bool
holds buffer values = leb (8 * length values) (length buffer)

-- the buffer with the numbers in its first bytes; without room it stays
unfoldable pub filled : (buffer values : List ℕ) → List ℕ
filled buffer values = holds buffer values ⇒ encoded values ++ drop (8 * length values) buffer else buffer
