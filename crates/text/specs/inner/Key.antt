-- The key of a text: its first four bytes as one number. Where the keys of two texts differ they decide their order; where they do not, they say nothing.
use Rattle.std.specs.Prelude.{List, [], ◌∷◌, ℕ, zero, suc, ◌+◌, ◌*◌, ◌^◌, ◌≤◌, ◌<◌, get_or}

-- a key with the next n bytes behind it, and zeros where these end
unfoldable pub key_by : (n key : ℕ) → List ℕ → ℕ
key_by zero key l = key
key_by (suc n) key [] = key_by n (key * 256) []
key_by (suc n) key (b ∷ l) = key_by n (key * 256 + b) l

abbrev pub key_of : List ℕ → ℕ
key_of l = key_by 4 0 l

-- n bytes more leave the key within 32 bits
abbrev pub Room : (n key : ℕ) → Type 0
Room n key = key_by n (key + 1) [] ≤ 2 ^ 32

-- a list of bytes
abbrev pub Bytes : List ℕ → Type 0
Bytes l = (i : ℕ) → get_or l i 0 < 256
