-- Bit fields in a row, most significant first, cut into bytes. A layout is the list of the fields' widths in bits; bytes are the layout
-- whose widths are all 8.
use Rattle.std.specs.Prelude.{List, [], ◌∷◌, ℕ, zero, suc, ◌+◌, ◌^◌, length}
use Rattle.radix.specs.Radix.{number, digits, Fit}

-- the bases of fields of these widths
abbrev pub bases : List ℕ → List ℕ
bases [] = []
bases (w ∷ ws) = 2 ^ w ∷ bases ws

-- the layout of a byte string
abbrev pub octets : ℕ → List ℕ
octets zero = []
octets (suc size) = 8 ∷ octets size

-- the bits of a layout
unfoldable pub bits : List ℕ → ℕ
bits [] = 0
bits (w ∷ ws) = w + bits ws

-- the number that a byte string spells
unfoldable pub bytes_number : List ℕ → ℕ
bytes_number s = number (bases (octets (length s))) s

-- the fields' values as `size` bytes
unfoldable pub packed : List ℕ → ℕ → List ℕ → List ℕ
packed widths size values = digits (bases (octets size)) (number (bases widths) values)

-- the fields' values out of a byte string
unfoldable pub unpacked : List ℕ → List ℕ → List ℕ
unpacked widths s = digits (bases widths) (bytes_number s)

-- every element is a byte
abbrev pub Bytes : List ℕ → Type 0
Bytes s = Fit (bases (octets (length s))) s
