-- A text's bytes from a cursor on, as the code walks over them, and the two ways in which it compares bytes.
use Rattle.std.specs.Prelude.{Bool, true, false, List, [], ◌∷◌, ◌++◌, map, ◌≡◌, ℕ, ◌+◌, ◌≤◌, ◌<◌, eqb, ltb, length, take, drop, get_or, Option, Some, None}
use Rattle.notation.specs.Choice.{◌⇒◌else◌, ◌and◌}
use Rattle.lexeme.specs.Character.{bytes_of, paired, char1, next}
use Rattle.text.specs.declared.Cursor.{Cursor}
use Rattle.text.specs.declared.Front.{Front}
use Rattle.text.specs.Text.{text_of, meant, same, lower}
use Rattle.text.specs.Ordering.{order_of}

-- the place `at` of the spelling, no character begun
abbrev pub cursor_at : ℕ → Cursor
cursor_at at = record { begun = record { b0 = 0; b1 = 0; b2 = 0; b3 = 0; len = 0; more = 0 }; at = at }

-- the bytes from a cursor on
unfoldable pub left : List ℕ → Cursor → List ℕ
left s c = bytes_of c.begun ++ text_of (drop c.at s)

-- the bytes of which a step tells
unfoldable pub told : List ℕ → Option (ℕ × Cursor) → List ℕ
told s None = []
told s (Some (b, c)) = b ∷ left s c

-- the same where the bytes may be raw
unfoldable pub left_by : (raw : Bool) → List ℕ → Cursor → List ℕ
left_by true s c = drop c.at s
left_by false s c = left s c

unfoldable pub told_by : (raw : Bool) → List ℕ → Option (ℕ × Cursor) → List ℕ
told_by raw s None = []
told_by raw s (Some (b, c)) = b ∷ left_by raw s c

-- the first `most` bytes from a cursor on, in an array, and the cursor behind them
pub record Fronted (s : List ℕ) (c : Cursor) (most : ℕ) (r : Front) : Type 0 where
  pub bytes : take r.count r.bytes ≡ take most (left s c)
  pub count : length (take most (left s c)) ≡ r.count
  pub after : left s r.after ≡ drop most (left s c)

-- a byte of ASCII that stands for itself
unfoldable pub alone : ℕ → Bool
alone b =
    eqb b 0x22 ⇒ false else
    eqb b 0x5c ⇒ false else
    ltb b 0x20 ⇒ false else ltb b 0x80

-- what is seen at the front of a text: 0 where it ends, one more than the byte where that stands for itself, and 257 where a character is to be decoded
unfoldable pub seen : (raw : Bool) → List ℕ → ℕ
seen raw [] = 0
seen true (b ∷ l) = b + 1
seen false (b ∷ l) = eqb b 0x22 ⇒ 0 else alone b ⇒ b + 1 else 257

-- an escape of six bytes at the front stands for the byte b of ASCII; any other number says nothing
abbrev pub Escapes : List ℕ → ℕ → Type 0
Escapes l b = b < 128 → next paired l ≡ char1 b 5

-- an escape \u00 begins at a place, with room for two digits more
pub record LowEscape (s : List ℕ) (at : ℕ) : Type 0 where
  pub room : at + 6 ≤ length s
  pub backslash : get_or s at 0 ≡ 0x5c
  pub letter : get_or s (at + 1) 0 ≡ 0x75
  pub third : get_or s (at + 2) 0 ≡ 0x30
  pub fourth : get_or s (at + 3) 0 ≡ 0x30

-- two spellings begin with the same byte, and it stands for itself
unfoldable pub same_plain : List ℕ → List ℕ → Bool
same_plain [] y = false
same_plain (a ∷ x) [] = false
same_plain (a ∷ x) (b ∷ y) = eqb a b and alone a

-- what follows the first n bytes of two spellings is in order as they are, also where the second has raw bytes
abbrev pub Ahead : (a b : List ℕ) → ℕ → Type 0
Ahead a b n = (raw : Bool) → order_of (text_of (drop n a)) (meant raw (drop n b)) ≡ order_of (text_of a) (meant raw b)

-- a byte as it is compared, with case folded or not
unfoldable pub cased : Bool → ℕ → ℕ
cased true b = lower b
cased false b = b

-- the same bytes, so compared
abbrev pub agreeing : Bool → List ℕ → List ℕ → Bool
agreeing fold x y = same (map (cased fold) x) (map (cased fold) y)
