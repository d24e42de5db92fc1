-- The texts of a tree, token by token as RFC 8259 writes its grammar: blanks may stand between any two tokens, each character of a string may be
-- escaped or not, a number is its own bytes, and items and members stand in the order of the tree. What spells one character and what a number is
-- are the definitions of `lexeme`; of the reader of texts nothing is used.
use Rattle.std.specs.Prelude.{true, false, List, [], ◌∷◌, ◌++◌, ◌≡◌, ℕ, zero, suc, length}
use Rattle.notation.specs.Ascii.{bytes}
use Rattle.lexeme.specs.declared.Char.{Char}
use Rattle.lexeme.specs.declared.Next.TheVariants as front
use Rattle.lexeme.specs.Read.Read.{done}
use Rattle.lexeme.specs.Character.{paired, bytes_of, next}
use Rattle.lexeme.specs.Numbers as Numbers
use Rattle.lexeme.specs.Tokens.{blank}
use Rattle.json_text.specs.Tree.{Json, as_items, as_members}

-- any number of blanks, also none
pub data Blanks : List ℕ → Type 0 where
  none : Blanks []
  some : {b : ℕ} {w : List ℕ} → blank b ≡ true → Blanks w → Blanks (b ∷ w)

-- a token, or several, with blanks around
pub data Padded (Token : List ℕ → Type 0) : List ℕ → Type 0 where
  padded : {w s u : List ℕ} → Blanks w → Token s → Blanks u → Padded Token (w ++ s ++ u)

-- one character by its UTF-8 bytes, and all of its spelling: itself, a short escape, or one or two escapes \u
pub data Character : List ℕ → List ℕ → Type 0 where
  character : {x : Char} {s : List ℕ} → next paired s ≡ front.Character x → length s ≡ suc x.more → Character (bytes_of x) s

pub data Characters : List ℕ → List ℕ → Type 0 where
  end : Characters [] []
  then : {x y s t : List ℕ} → Character x s → Characters y t → Characters (x ++ y) (s ++ t)

-- a string in its quotation marks
pub data Quoted : List ℕ → List ℕ → Type 0 where
  quoted : {y s : List ℕ} → Characters y s → Quoted y (bytes "\"" ++ s ++ bytes "\"")

-- a value without brackets
pub data Plain : Json → List ℕ → Type 0 where
  null : Plain Json.null (bytes "null")
  yes : Plain (Json.boolean true) (bytes "true")
  no : Plain (Json.boolean false) (bytes "false")
  number : {n : List ℕ} → Numbers.number n ≡ done n [] → Plain (Json.number n) n
  string : {y s : List ℕ} → Quoted y s → Plain (Json.string y) s

-- elements, one at least, with commas between them
pub data Listed {A : Type 0} (Element : A → List ℕ → Type 0) : List A → List ℕ → Type 0 where
  last : {x : A} {s : List ℕ} → Element x s → Listed Element (x ∷ []) s
  comma : {x : A} {xs : List A} {s w u t : List ℕ}
      → Element x s → Blanks w → Blanks u → Listed Element xs t → Listed Element (x ∷ xs) (s ++ w ++ bytes "," ++ u ++ t)

-- what stands between brackets
pub data Enclosed {A : Type 0} (Element : A → List ℕ → Type 0) : List A → List ℕ → Type 0 where
  nothing : {w : List ℕ} → Blanks w → Enclosed Element [] w
  elements : {xs : List A} {s : List ℕ} → Padded (Listed Element xs) s → Enclosed Element xs s

-- a member: its name, a colon, its value
pub data Member (Inner : Json → List ℕ → Type 0) : List ℕ × Json → List ℕ → Type 0 where
  colon : {name : List ℕ} {x : Json} {n w u v : List ℕ}
      → Quoted name n → Blanks w → Blanks u → Inner x v → Member Inner (name, x) (n ++ w ++ bytes ":" ++ u ++ v)

-- a value, where values inside it are spelled so
pub data Nested (Inner : Json → List ℕ → Type 0) : Json → List ℕ → Type 0 where
  plain : {x : Json} {s : List ℕ} → Plain x s → Nested Inner x s
  array : {xs : List Json} {s : List ℕ} → Enclosed Inner xs s → Nested Inner (Json.array (as_items xs)) (bytes "[" ++ s ++ bytes "]")
  object : {ms : List (List ℕ × Json)} {s : List ℕ} → Enclosed (Member Inner) ms s → Nested Inner (Json.object (as_members ms)) (bytes "{" ++ s ++ bytes "}")

-- a value with at most so many levels of brackets
abbrev pub Value : ℕ → Json → List ℕ → Type 0
Value zero = Plain
Value (suc levels) = Nested (Value levels)

-- a text: a value with blanks around it
pub record Spells (levels : ℕ) (x : Json) (s : List ℕ) : Type 0 where
  pub whole : Padded (Value levels x) s
