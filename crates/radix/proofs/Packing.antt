-- Fields of any widths that fill their bytes exactly are packed and read back without loss, either way round: both layouts spell
-- the same numbers, since both have as many bits.
use mathlib.Core.List.{List, [], ◌∷◌}
use mathlib.Core.Path.{◌≡◌, refl, sym, ap, ◌∙◌}
use Prim.Native.Nat.{ℕ, zero, suc, ◌*◌, ◌^◌, ◌<◌}
use native.Mathlib.Nat.{mod-lt}
use native.Mathlib.Omega.{arith}
use lib.ListN.{length}
use lib.Pow.{pow-add, pow_pos}
use Rattle.radix.specs.Radix.{weight, number, digits, Fit}
use Rattle.radix.specs.Fields.{bases, octets, bits, bytes_number, packed, unpacked, Bytes}
use Rattle.radix.proofs.Digits.{number-below, digits_number, number_digits}

pub weight-bases : (ws : List ℕ) → weight (bases ws) ≡ 2 ^ bits ws
unfolding weight bits
weight-bases [] = refl
weight-bases (w ∷ ws) = rw (weight-bases ws, pow-add 2 w (bits ws))

pub octets-bits : (size : ℕ) → bits (octets size) ≡ size * 8
unfolding bits
octets-bits zero = refl
octets-bits (suc size) = let ih = octets-bits size in omega arith

pub digits-length : (ms : List ℕ) (n : ℕ) → length (digits ms n) ≡ length ms
unfolding digits
digits-length [] n = refl
digits-length (m ∷ ms) n = ap suc (digits-length ms n)

-- the digits of any number are below their bases
pub digits_fit : (ws : List ℕ) (n : ℕ) → Fit (bases ws) (digits (bases ws) n)
unfolding digits
digits_fit [] n = tt
digits_fit (w ∷ ws) n = (mod-lt _ (pow_pos w), digits_fit ws n)

octets-length : (size : ℕ) → length (bases (octets size)) ≡ size
octets-length zero = refl
octets-length (suc size) = ap suc (octets-length size)

-- a byte string is the digits of its number
bytes-number : (s : List ℕ) → Bytes s → (bytes_number s < weight (bases (octets (length s)))) × (digits (bases (octets (length s))) (bytes_number s) ≡ s)
unfolding bytes_number
bytes-number s fit = let ms = bases (octets (length s)) in (number-below ms s fit, digits_number ms s fit)

module _ (widths : List ℕ) (size : ℕ) (full : bits widths ≡ size * 8) where
  same-weight : weight (bases widths) ≡ weight (bases (octets size))
  same-weight = weight-bases widths ∙ ap (λ (n : ℕ). 2 ^ n) (full ∙ sym (octets-bits size)) ∙ sym (weight-bases (octets size))

  pub packed-length : (values : List ℕ) → length (packed widths size values) ≡ size
  unfolding packed
  packed-length values = digits-length (bases (octets size)) _ ∙ octets-length size

  pub packed-number : (values : List ℕ) → Fit (bases widths) values → bytes_number (packed widths size values) ≡ number (bases widths) values
  unfolding bytes_number
  packed-number values fit =
      rw (packed-length values)
      (unfold packed in number_digits (bases (octets size)) (number (bases widths) values) (rw same-weight at (number-below (bases widths) values fit)))

  -- what was packed reads back
  pub unpacked-packed : (values : List ℕ) → Fit (bases widths) values → unpacked widths (packed widths size values) ≡ values
  unfolding unpacked
  unpacked-packed values fit = rw (packed-number values fit) (digits_number (bases widths) values fit)

  -- what was read packs to the same bytes
  pub packed-unpacked : (s : List ℕ) → Bytes s → length s ≡ size → packed widths size (unpacked widths s) ≡ s
  unfolding packed unpacked
  packed-unpacked s fit e =
      let b = bytes-number s fit in
      rw (number_digits (bases widths) (bytes_number s) (rw (same-weight, ← e) b.0), ← e) b.1
