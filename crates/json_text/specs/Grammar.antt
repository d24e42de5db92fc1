-- RFC 8259's grammar of a JSON text, rule by rule, as families of byte strings: no tree, no reader, no bound on levels and no rule on surrogate escapes.
-- Unescaped characters are UTF-8 by RFC 3629. The blanks that the RFC counts with each structural character stand here between the tokens
-- (`Blanks` and `Padded` of `Spelling`). Then, for kind 2, what some JSON text begins with.
use Rattle.std.specs.Prelude.{Bool, true, List, [], ◌∷◌, ◌++◌, ◌≡◌, ℕ, zero, suc, ◌+◌, ◌≤◌, ◌<◌, length, take}
use Rattle.notation.specs.Choice.{◌⇒◌else◌}
use Rattle.notation.specs.Ascii.{bytes}
use Rattle.lexeme.specs.Character.{within}
use Rattle.lexeme.specs.Numbers.{digit, either}
use Rattle.json_text.specs.Spelling.{Blanks, Padded}

-- 1*DIGIT
pub data Digits : List ℕ → Type 0 where
  one : {b : ℕ} → digit b ≡ true → Digits (b ∷ [])
  more : {b : ℕ} {s : List ℕ} → digit b ≡ true → Digits s → Digits (b ∷ s)

-- int = zero / ( digit1-9 *DIGIT )
pub data Int : List ℕ → Type 0 where
  naught : Int (bytes "0")
  single : {b : ℕ} → within 0x31 0x39 b ≡ true → Int (b ∷ [])
  several : {b : ℕ} {s : List ℕ} → within 0x31 0x39 b ≡ true → Digits s → Int (b ∷ s)

-- [ frac ], where frac = decimal-point 1*DIGIT
pub data Frac : List ℕ → Type 0 where
  none : Frac []
  point : {s : List ℕ} → Digits s → Frac (0x2e ∷ s)

-- [ exp ], where exp = e [ minus / plus ] 1*DIGIT
pub data Exp : List ℕ → Type 0 where
  none : Exp []
  bare : {e : ℕ} {s : List ℕ} → either 0x65 0x45 e ≡ true → Digits s → Exp (e ∷ s)
  signed : {e g : ℕ} {s : List ℕ} → either 0x65 0x45 e ≡ true → either 0x2b 0x2d g ≡ true → Digits s → Exp (e ∷ g ∷ s)

-- number = [ minus ] int [ frac ] [ exp ]
pub data Number : List ℕ → Type 0 where
  plain : {i f e : List ℕ} → Int i → Frac f → Exp e → Number (i ++ (f ++ e))
  minus : {i f e : List ℕ} → Int i → Frac f → Exp e → Number (0x2d ∷ (i ++ (f ++ e)))

-- UTF8-tail, HEXDIG, what may follow a backslash besides u, and unescaped characters of one byte
unfoldable pub tail : ℕ → Bool
tail b = within 0x80 0xbf b

unfoldable pub hex_digit : ℕ → Bool
hex_digit b =
    digit b ⇒ true else
    within 0x41 0x46 b ⇒ true else within 0x61 0x66 b

unfoldable pub escapable : ℕ → Bool
escapable b =
    either 0x22 0x5c b ⇒ true else
    either 0x2f 0x62 b ⇒ true else
    either 0x66 0x6e b ⇒ true else either 0x72 0x74 b

unfoldable pub unescaped : ℕ → Bool
unescaped b =
    within 0x20 0x21 b ⇒ true else
    within 0x23 0x5b b ⇒ true else within 0x5d 0x7f b

-- char: unescaped as UTF8-1 to UTF8-4, or an escape
pub data Char : List ℕ → Type 0 where
  utf1 : {a : ℕ} → unescaped a ≡ true → Char (a ∷ [])
  utf2 : {a b : ℕ} → within 0xc2 0xdf a ≡ true → tail b ≡ true → Char (a ∷ b ∷ [])
  utf3_e0 : {b c : ℕ} → within 0xa0 0xbf b ≡ true → tail c ≡ true → Char (0xe0 ∷ b ∷ c ∷ [])
  utf3_e1 : {a b c : ℕ} → within 0xe1 0xec a ≡ true → tail b ≡ true → tail c ≡ true → Char (a ∷ b ∷ c ∷ [])
  utf3_ed : {b c : ℕ} → within 0x80 0x9f b ≡ true → tail c ≡ true → Char (0xed ∷ b ∷ c ∷ [])
  utf3_ee : {a b c : ℕ} → within 0xee 0xef a ≡ true → tail b ≡ true → tail c ≡ true → Char (a ∷ b ∷ c ∷ [])
  utf4_f0 : {b c d : ℕ} → within 0x90 0xbf b ≡ true → tail c ≡ true → tail d ≡ true → Char (0xf0 ∷ b ∷ c ∷ d ∷ [])
  utf4_f1 : {a b c d : ℕ} → within 0xf1 0xf3 a ≡ true → tail b ≡ true → tail c ≡ true → tail d ≡ true → Char (a ∷ b ∷ c ∷ d ∷ [])
  utf4_f4 : {b c d : ℕ} → within 0x80 0x8f b ≡ true → tail c ≡ true → tail d ≡ true → Char (0xf4 ∷ b ∷ c ∷ d ∷ [])
  short : {b : ℕ} → escapable b ≡ true → Char (0x5c ∷ b ∷ [])
  unicode : {a b c d : ℕ} → hex_digit a ≡ true → hex_digit b ≡ true → hex_digit c ≡ true → hex_digit d ≡ true → Char (0x5c ∷ 0x75 ∷ a ∷ b ∷ c ∷ d ∷ [])

-- *char
pub data Chars : List ℕ → Type 0 where
  end : Chars []
  then : {s t : List ℕ} → Char s → Chars t → Chars (s ++ t)

-- string = quotation-mark *char quotation-mark
pub data String : List ℕ → Type 0 where
  quoted : {s : List ℕ} → Chars s → String (bytes "\"" ++ s ++ bytes "\"")

-- a value without brackets: false / null / true / number / string
pub data Scalar : List ℕ → Type 0 where
  no : Scalar (bytes "false")
  null : Scalar (bytes "null")
  yes : Scalar (bytes "true")
  number : {s : List ℕ} → Number s → Scalar s
  string : {s : List ℕ} → String s → Scalar s

-- elements, one at least, with value-separators between them
pub data Elements (Element : List ℕ → Type 0) : List ℕ → Type 0 where
  last : {s : List ℕ} → Element s → Elements Element s
  comma : {s w u t : List ℕ} → Element s → Blanks w → Blanks u → Elements Element t → Elements Element (s ++ w ++ bytes "," ++ u ++ t)

-- what stands between brackets
pub data Enclosed (Element : List ℕ → Type 0) : List ℕ → Type 0 where
  nothing : {w : List ℕ} → Blanks w → Enclosed Element w
  elements : {s : List ℕ} → Padded (Elements Element) s → Enclosed Element s

-- member = string name-separator value
pub data Member (Inner : List ℕ → Type 0) : List ℕ → Type 0 where
  colon : {n w u v : List ℕ} → String n → Blanks w → Blanks u → Inner v → Member Inner (n ++ w ++ bytes ":" ++ u ++ v)

-- a value, where values inside it are so
pub data Nested (Inner : List ℕ → Type 0) : List ℕ → Type 0 where
  scalar : {s : List ℕ} → Scalar s → Nested Inner s
  array : {s : List ℕ} → Enclosed Inner s → Nested Inner (bytes "[" ++ s ++ bytes "]")
  object : {s : List ℕ} → Enclosed (Member Inner) s → Nested Inner (bytes "{" ++ s ++ bytes "}")

-- a value with at most so many levels of brackets
abbrev pub Value : ℕ → List ℕ → Type 0
Value zero = Scalar
Value (suc levels) = Nested (Value levels)

-- JSON-text = ws value ws, with any number of levels
pub record IsText (l : List ℕ) : Type 0 where
  pub levels : ℕ
  pub whole : Padded (Value levels) l

-- some JSON text begins with p
pub record Begins (p : List ℕ) : Type 0 where
  pub rest : List ℕ
  pub whole : IsText (p ++ rest)

-- some JSON text begins with the first n bytes of s, and none with one byte more
pub record Longest (s : List ℕ) (n : ℕ) : Type 0 where
  pub inside : n ≤ length s
  pub begins : Begins (take n s)
  pub ends : n < length s → Begins (take (n + 1) s) → ⊥
