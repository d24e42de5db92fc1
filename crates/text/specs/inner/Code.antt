-- A character at a place of a spelling, and as one number.
use Rattle.std.specs.Prelude.{List, ◌≡◌, ℕ, ◌+◌, ◌*◌, ◌/◌, ◌%◌, ◌≤◌, ◌<◌, length, drop, get_or}
use Rattle.lexeme.specs.declared.Char.{Char}
use Rattle.lexeme.specs.declared.Next.{Next}
use Rattle.lexeme.specs.declared.Next.TheVariants.{Character}
use Rattle.lexeme.specs.Character.{paired, next}

-- the character x stands at a place of a spelling
pub record CharAt (s : List ℕ) (at : ℕ) (x : Char) : Type 0 where
  pub inside : at < length s
  pub is : next paired (drop at s) ≡ Character x

abbrev pub char_of : (b0 b1 b2 b3 len more : ℕ) → Char
char_of b0 b1 b2 b3 len more = record { b0 = b0; b1 = b1; b2 = b2; b3 = b3; len = len; more = more }

-- a character as a number: its bytes, how many of them count, and how many its spelling has, each with 256 times the weight of the one before
abbrev pub packed : Char → ℕ
packed x = x.b0 + 0x100 * (x.b1 + 0x100 * (x.b2 + 0x100 * (x.b3 + 0x100 * (x.len + 0x100 * (x.more + 1)))))

-- the bytes of a character, and how many they are, are each below 256
pub record Small (x : Char) : Type 0 where
  pub b0 : x.b0 < 256
  pub b1 : x.b1 < 256
  pub b2 : x.b2 < 256
  pub b3 : x.b3 < 256
  pub len : x.len < 256

pub record Packs (x : Char) (r : ℕ) : Type 0 where
  pub is : r ≡ packed x
  pub small : Small x

-- the number of a character at a place
pub record Coded (s : List ℕ) (at r : ℕ) : Type 0 where
  pub char : Char
  pub here : CharAt s at char
  pub packs : Packs char r

-- the number of a character that is found
pub record CodedAs (o : Next) (r : ℕ) : Type 0 where
  pub char : Char
  pub is : o ≡ Character char
  pub packs : Packs char r

-- two numbers of characters with the same bytes; where the first is of one, so is the second
pub record SameCodes (x y : ℕ) : Type 0 where
  pub first : 0 < x
  pub bytes : x % 0x100_0000_0000 ≡ y % 0x100_0000_0000

-- how many bytes the spelling has of a character with this number
abbrev pub width_of : ℕ → ℕ
width_of r = r / 0x100_0000_0000

-- n bytes are the same from a place of each on
pub record SameRun (a b : List ℕ) (i j n : ℕ) : Type 0 where
  pub inside : j + n ≤ length b
  pub same : (k : ℕ) → k < n → get_or a (i + k) 0 ≡ get_or b (j + k) 0

-- the same character at a place of each, in n bytes of both
pub record SharedAt (a b : List ℕ) (i j n : ℕ) : Type 0 where
  pub char : Char
  pub first : CharAt a i char
  pub second : CharAt b j char
  pub width : n ≡ char.more + 1
