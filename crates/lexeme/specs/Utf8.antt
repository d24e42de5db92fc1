-- UTF-8 by RFC 3629, over all scalar values: the bytes that a string holds as an unescaped character are those that an escape of the same code point
-- gives. Each field of `Agreement` is one sentence of this, with what it shuts out.
use Rattle.std.specs.Prelude.{true, false, List, [], ◌∷◌, ◌++◌, ◌≡◌, ℕ, ◌+◌, ◌-◌, ◌*◌, ◌/◌, ◌%◌, ◌≤◌, ◌<◌, length, drop, Ok}
use Rattle.word.specs.Kinds.{not_json}
use Rattle.lexeme.specs.declared.Char.{Char}
use Rattle.lexeme.specs.declared.Next.{Next}
use Rattle.lexeme.specs.declared.Next.TheVariants.{Quote, Character, Fault}
use Rattle.lexeme.specs.Character.{Surrogates, paired, byte, within, bytes_of, encoded, quad, combined, escape, next}

-- a scalar value: a code point that is no surrogate
pub record Scalar (v : ℕ) : Type 0 where
  pub most : v ≤ 0x10ffff
  pub no_surrogate : within 0xd800 0xdfff v ≡ false

-- one that a string may hold unescaped
pub record Unescaped (v : ℕ) : Type 0 where
  pub scalar : Scalar v
  pub no_control : 0x20 ≤ v
  pub no_quote : v ≡ 0x22 → ⊥
  pub no_backslash : v ≡ 0x5c → ⊥

-- the bytes of the character that was read, if one was
unfoldable pub bytes_in : Next → List ℕ
bytes_in Quote = []
bytes_in (Character x) = bytes_of x
bytes_in (Fault k n) = []

-- the UTF-8 of a code point, as an escape gives it
unfoldable pub utf8 : ℕ → List ℕ
utf8 v = bytes_in (encoded v 0)

-- the code point of UTF-8 bytes: the bits that RFC 3629's table leaves open, in a row
unfoldable pub code_point : List ℕ → ℕ
code_point [] = 0
code_point (a ∷ []) = a
code_point (a ∷ b ∷ []) = a % 32 * 64 + b % 64
code_point (a ∷ b ∷ c ∷ []) = a % 16 * 4096 + b % 64 * 64 + c % 64
code_point (a ∷ b ∷ c ∷ d ∷ r) = a % 8 * 262144 + b % 64 * 4096 + c % 64 * 64 + d % 64

-- x is the unescaped character at the front of l, of the code point v
pub record Stands (v : ℕ) (x : Char) (l : List ℕ) : Type 0 where
  pub unescaped : Unescaped v
  pub encoding : Character x ≡ encoded v (length (utf8 v) - 1)
  pub front : l ≡ utf8 v ++ drop (length (utf8 v)) l

-- l begins with the escape \u of the value v
pub record Escape (v : ℕ) (l : List ℕ) : Type 0 where
  pub backslash : byte l 0 ≡ 0x5c
  pub letter : byte l 1 ≡ 0x75
  pub digits : quad (drop 2 l) ≡ Ok v

pub record Agreement : Type 0 where
  -- No code point is lost in its encoding, so no two share one. Shut out: a first byte with too few bits of the value.
  pub decodes : (v : ℕ) → Scalar v → code_point (utf8 v) ≡ v
  pub unique : (v w : ℕ) → Scalar v → Scalar w → utf8 v ≡ utf8 w → v ≡ w
  -- The encoding of a value that may stand unescaped is read as one character of exactly its bytes, whatever follows. Shut out: a range of second bytes that is
  -- too narrow; an encoding that is not the shortest.
  pub reads : (ρ : Surrogates) (v : ℕ) → Unescaped v → (r : List ℕ) → next ρ (utf8 v ++ r) ≡ encoded v (length (utf8 v) - 1)
  -- The other scalar values are encoded in one byte, which is no character: a fault, a string's end, or an escape's beginning.
  pub single : (v : ℕ) → v < 0x80 → utf8 v ≡ v ∷ []
  pub control : (ρ : Surrogates) (v : ℕ) → v < 0x20 → (r : List ℕ) → next ρ (v ∷ r) ≡ Fault not_json 0
  pub quote : (ρ : Surrogates) (r : List ℕ) → next ρ (0x22 ∷ r) ≡ Quote
  pub backslash : (ρ : Surrogates) (r : List ℕ) → next ρ (0x5c ∷ r) ≡ escape ρ (0x5c ∷ r)
  -- Every character that is no escape is the encoding of a scalar value that may stand unescaped, and of no other. Shut out: overlong forms, surrogates and
  -- values past the greatest.
  pub unescaped : (ρ : Surrogates) (l : List ℕ) (x : Char) → (byte l 0 ≡ 0x5c → ⊥) → next ρ l ≡ Character x → Stands (code_point (bytes_of x)) x l
  -- An escape gives the encoding of its value, and two surrogate escapes that of the code point which they make: the bytes of the unescaped spelling.
  pub encodes : (v more : ℕ) → bytes_in (encoded v more) ≡ utf8 v
  pub escaped : (ρ : Surrogates) (v : ℕ) (l : List ℕ) → Escape v l → within 0xd800 0xdfff v ≡ false → Scalar v × (next ρ l ≡ encoded v 5)
  pub pair : (ρ : Surrogates) (v w : ℕ) (l : List ℕ) → Escape v l → within 0xd800 0xdbff v ≡ true → Escape w (drop 6 l) → within 0xdc00 0xdfff w ≡ true
      → Scalar (combined v w) × (next ρ l ≡ encoded (combined v w) 11)
  -- So escaped or not, a code point gives the same bytes.
  pub alike : (ρ : Surrogates) (v more : ℕ) (l r : List ℕ) → Unescaped v → next ρ l ≡ encoded v more → bytes_in (next ρ l) ≡ bytes_in (next ρ (utf8 v ++ r))
  -- And every character by stage A's rule, escaped or not, is the encoding of a scalar value: what a string spells is UTF-8.
  pub spelled : (l : List ℕ) (x : Char) → next paired l ≡ Character x → Scalar (code_point (bytes_of x)) × (utf8 (code_point (bytes_of x)) ≡ bytes_of x)
  -- Every scalar value past the first 65,536 is what a pair makes.
  pub halves : (v : ℕ) → 0x10000 ≤ v → v ≤ 0x10ffff
      → (within 0xd800 0xdbff (0xd7c0 + v / 1024) ≡ true) × (within 0xdc00 0xdfff (0xdc00 + v % 1024) ≡ true) × (combined (0xd7c0 + v / 1024) (0xdc00 + v % 1024) ≡ v)
