-- One character of a JSON string, as RFC 8259 spells it and RFC 3629 encodes it: found by looking at most twelve bytes ahead.
-- Past the end of the text every byte reads as 0, and no place of a string admits a 0, so that a text which is cut off fails by the same tests.
use Rattle.std.specs.Prelude.{Bool, false, not, List, [], ◌∷◌, ℕ, ◌+◌, ◌-◌, ◌*◌, ◌/◌, ◌%◌, drop, get_or, take, eqb, leb, ltb, Result, Option, Ok, Err, Some, None}
use Rattle.notation.specs.Choice.{◌⇒◌else◌}
use Rattle.word.specs.Kinds.{not_json, unpaired}
use Rattle.lexeme.specs.declared.Char.{Char}
use Rattle.lexeme.specs.declared.Next.{Next}
use Rattle.lexeme.specs.declared.Next.TheVariants.{Quote, Character, Fault}

-- how surrogate escapes are read: a lone one is kind 3, as stage A has it; or lets pass, as kind 2's grammar has it
pub data Surrogates : Type 0 where
  paired : Surrogates
  lone : Surrogates

abbrev pub byte : List ℕ → ℕ → ℕ
byte l i = get_or l i 0

unfoldable pub within : ℕ → ℕ → ℕ → Bool
within lo hi b = leb lo b ⇒ leb b hi else false

-- a character of one to four bytes, whose spelling goes on for `more` bytes after the first
abbrev pub char1 : ℕ → ℕ → Next
char1 a more = Character (record { b0 = a; b1 = 0; b2 = 0; b3 = 0; len = 1; more = more })

abbrev pub char2 : ℕ → ℕ → ℕ → Next
char2 a b more = Character (record { b0 = a; b1 = b; b2 = 0; b3 = 0; len = 2; more = more })

abbrev pub char3 : ℕ → ℕ → ℕ → ℕ → Next
char3 a b c more = Character (record { b0 = a; b1 = b; b2 = c; b3 = 0; len = 3; more = more })

abbrev pub char4 : ℕ → ℕ → ℕ → ℕ → ℕ → Next
char4 a b c d more = Character (record { b0 = a; b1 = b; b2 = c; b3 = d; len = 4; more = more })

-- its bytes
abbrev pub bytes_of : Char → List ℕ
bytes_of x = take x.len (x.b0 ∷ x.b1 ∷ x.b2 ∷ x.b3 ∷ [])

-- UTF-8 of two, three and four bytes; after some first bytes the second has a narrower range, from lo to hi
unfoldable pub utf2 : List ℕ → Next
utf2 l = within 0x80 0xbf (byte l 1) ⇒ char2 (byte l 0) (byte l 1) 1 else Fault not_json 1

unfoldable pub utf3 : ℕ → ℕ → List ℕ → Next
utf3 lo hi l =
    not (within lo hi (byte l 1)) ⇒ Fault not_json 1 else
    not (within 0x80 0xbf (byte l 2)) ⇒ Fault not_json 2 else
    char3 (byte l 0) (byte l 1) (byte l 2) 2

unfoldable pub utf4 : ℕ → ℕ → List ℕ → Next
utf4 lo hi l =
    not (within lo hi (byte l 1)) ⇒ Fault not_json 1 else
    not (within 0x80 0xbf (byte l 2)) ⇒ Fault not_json 2 else
    not (within 0x80 0xbf (byte l 3)) ⇒ Fault not_json 3 else
    char4 (byte l 0) (byte l 1) (byte l 2) (byte l 3) 3

-- the UTF-8 of a code point that an escape names
unfoldable pub encoded : ℕ → ℕ → Next
encoded v more =
    ltb v 0x80 ⇒ char1 v more else
    ltb v 0x800 ⇒ char2 (0xc0 + v / 64) (0x80 + v % 64) more else
    ltb v 0x10000 ⇒ char3 (0xe0 + v / 4096) (0x80 + v / 64 % 64) (0x80 + v % 64) more else
    char4 (0xf0 + v / 262144 % 8) (0x80 + v / 4096 % 64) (0x80 + v / 64 % 64) (0x80 + v % 64) more

-- a hexadecimal digit's value, or 16
unfoldable pub hex_value : ℕ → ℕ
hex_value b =
    within 0x30 0x39 b ⇒ b - 0x30 else
    within 0x41 0x46 b ⇒ b - 0x37 else
    within 0x61 0x66 b ⇒ b - 0x57 else 16

unfoldable pub hexadecimal : ℕ → Bool
hexadecimal b = ltb (hex_value b) 16

-- the four hexadecimal digits at the front
unfoldable pub quad : List ℕ → Result ℕ ℕ
quad l =
    not (hexadecimal (byte l 0)) ⇒ Err 0 else
    not (hexadecimal (byte l 1)) ⇒ Err 1 else
    not (hexadecimal (byte l 2)) ⇒ Err 2 else
    not (hexadecimal (byte l 3)) ⇒ Err 3 else
    Ok (hex_value (byte l 0) * 4096 + hex_value (byte l 1) * 256 + hex_value (byte l 2) * 16 + hex_value (byte l 3))

-- four digits as the value of a low surrogate, or anything else
unfoldable pub low_of : Result ℕ ℕ → Option ℕ
low_of (Err n) = None
low_of (Ok w) = within 0xdc00 0xdfff w ⇒ Some w else None

-- a whole low surrogate escape at the front, or anything else
unfoldable pub trail : List ℕ → Option ℕ
trail l =
    not (eqb (byte l 0) 0x5c) ⇒ None else
    not (eqb (byte l 1) 0x75) ⇒ None else
    low_of (quad (drop 2 l))

-- the code point of a high and a low surrogate
unfoldable pub combined : ℕ → ℕ → ℕ
combined v w = 0x10000 + v % 1024 * 1024 + w % 1024

-- an unpaired surrogate escape of the value v
unfoldable pub alone : Surrogates → ℕ → Next
alone paired v = Fault unpaired 0
alone lone v = encoded v 5

-- a high surrogate escape of the value v, by what follows it
unfoldable pub high : Surrogates → ℕ → Option ℕ → Next
high ρ v None = alone ρ v
high ρ v (Some w) = encoded (combined v w) 11

-- the escape \u of the value v, its backslash at the front; surrogates pair from left to right
unfoldable pub unit : Surrogates → List ℕ → ℕ → Next
unit ρ l v =
    within 0xdc00 0xdfff v ⇒ alone ρ v else
    within 0xd800 0xdbff v ⇒ high ρ v (trail (drop 6 l)) else
    encoded v 5

-- the escape \u, by its four digits
unfoldable pub unicode : Surrogates → List ℕ → Result ℕ ℕ → Next
unicode ρ l (Err n) = Fault not_json (n + 2)
unicode ρ l (Ok v) = unit ρ l v

-- what the byte after a backslash stands for, or 0
unfoldable pub short : ℕ → ℕ
short b =
    eqb b 0x22 ⇒ 0x22 else
    eqb b 0x5c ⇒ 0x5c else
    eqb b 0x2f ⇒ 0x2f else
    eqb b 0x62 ⇒ 0x08 else
    eqb b 0x66 ⇒ 0x0c else
    eqb b 0x6e ⇒ 0x0a else
    eqb b 0x72 ⇒ 0x0d else
    eqb b 0x74 ⇒ 0x09 else 0

-- an escape, its backslash at the front
unfoldable pub escape : Surrogates → List ℕ → Next
escape ρ l =
    eqb (byte l 1) 0x75 ⇒ unicode ρ l (quad (drop 2 l)) else
    eqb (short (byte l 1)) 0 ⇒ Fault not_json 1 else
    char1 (short (byte l 1)) 1

-- what stands at the front of the text inside a string: the quote, the backslash and the control characters of RFC 8259, then RFC 3629's table of first bytes
unfoldable pub next : Surrogates → List ℕ → Next
next ρ l =
    let b = byte l 0 in
    eqb b 0x22 ⇒ Quote else
    eqb b 0x5c ⇒ escape ρ l else
    ltb b 0x20 ⇒ Fault not_json 0 else
    ltb b 0x80 ⇒ char1 b 0 else
    ltb b 0xc2 ⇒ Fault not_json 0 else
    ltb b 0xe0 ⇒ utf2 l else
    eqb b 0xe0 ⇒ utf3 0xa0 0xbf l else
    eqb b 0xed ⇒ utf3 0x80 0x9f l else
    ltb b 0xf0 ⇒ utf3 0x80 0xbf l else
    eqb b 0xf0 ⇒ utf4 0x90 0xbf l else
    ltb b 0xf4 ⇒ utf4 0x80 0xbf l else
    eqb b 0xf4 ⇒ utf4 0x80 0x8f l else Fault not_json 0
