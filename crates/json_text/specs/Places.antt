-- Where stage A's faults of kinds 3 and 4 stand, as document 01 says it: told of the bytes, of the grammar and of what spells a tree, with nothing of the reader
-- of texts. Kind 3: at an escape \u of a surrogate that is unpaired, with none before it. Kind 4: at a bracket that opens one level too many, where JSON allows one.
use Rattle.std.specs.Prelude.{true, List, [], ◌∷◌, ◌++◌, ◌≡◌, ℕ, ◌+◌, ◌-◌, ◌*◌, take, drop, get_or, eqb}
use Rattle.limits.specs.Ceilings.{depth}
use Rattle.notation.specs.Choice.{◌⇒◌else◌}
use Rattle.notation.specs.Ascii.{bytes}
use Rattle.lexeme.specs.Character.{within, hex_value}
use Rattle.lexeme.specs.Numbers.{either}
use Rattle.lexeme.specs.Cases.{lexing}
use Rattle.json_text.specs.Tree.{Json}
use Rattle.json_text.specs.Spelling.{Spells}
use Rattle.json_text.specs.Grammar.{hex_digit, Begins}

-- a place in a text: outside strings, inside one, or there just after a backslash; with the number of brackets that are open, strings left out
pub data Place : Type 0 where
  outside : ℕ → Place
  inside : ℕ → Place
  escaped : ℕ → Place

-- one byte on
unfoldable pub from_outside : ℕ → ℕ → Place
from_outside n b =
    eqb b 0x22 ⇒ inside n else
    either 0x5b 0x7b b ⇒ outside (n + 1) else
    either 0x5d 0x7d b ⇒ outside (n - 1) else outside n

unfoldable pub from_inside : ℕ → ℕ → Place
from_inside n b =
    eqb b 0x22 ⇒ outside n else
    eqb b 0x5c ⇒ escaped n else inside n

unfoldable pub step : Place → ℕ → Place
step (outside n) b = from_outside n b
step (inside n) b = from_inside n b
step (escaped n) b = inside n

-- some bytes on
unfoldable pub along : Place → List ℕ → Place
along p [] = p
along p (b ∷ r) = along (step p b) r

-- the place after the first bytes of a text
abbrev pub place_after : List ℕ → Place
place_after = along (outside 0)

-- `Escape v t q`: the whole escape \u of the value v, by its four digits, is what t begins with, and q follows it
pub data Escape : ℕ → List ℕ → List ℕ → Type 0 where
  escape : {a b c d : ℕ} {q : List ℕ} → hex_digit a ≡ true → hex_digit b ≡ true → hex_digit c ≡ true → hex_digit d ≡ true
      → Escape (hex_value a * 4096 + hex_value b * 256 + hex_value c * 16 + hex_value d) (0x5c ∷ 0x75 ∷ a ∷ b ∷ c ∷ d ∷ q) q

-- of a high and of a low surrogate
pub record High (t q : List ℕ) : Type 0 where
  pub value : ℕ
  pub whole : Escape value t q
  pub range : within 0xd800 0xdbff value ≡ true

pub record Low (t q : List ℕ) : Type 0 where
  pub value : ℕ
  pub whole : Escape value t q
  pub range : within 0xdc00 0xdfff value ≡ true

-- a surrogate escape that t begins with and that pairs with none after it: a low one, or a high one that no whole low one follows at once
pub data Unpaired (t : List ℕ) : Type 0 where
  low : {q : List ℕ} → Low t q → Unpaired t
  high : {q : List ℕ} → High t q → ((p : List ℕ) → Low q p → ⊥) → Unpaired t

-- Kind 3 at n, inside a string. The bytes before it, with the string closed at once, begin a text that spells a tree: so up to there all is JSON
-- within the levels, and escapes pair among themselves.
pub record UnpairedAt (s : List ℕ) (n : ℕ) : Type 0 where
  pub stands : Unpaired (drop n s)
  pub levels : ℕ
  pub within-string : place_after (take n s) ≡ inside levels
  pub ending : List ℕ
  pub tree : Json
  pub before : Spells depth tree (take n s ++ bytes "\"" ++ ending)

-- Kind 4 at n: a bracket, where as many are open as may be, and some JSON text has it there. The bytes before it begin a text that spells a tree, with a
-- number in the bracket's place: so up to there all is JSON within the levels, and escapes pair.
pub record TooDeepAt (s : List ℕ) (n : ℕ) : Type 0 where
  pub bracket : either 0x5b 0x7b (get_or s n 0) ≡ true
  pub full : place_after (take n s) ≡ outside depth
  pub allowed : Begins (take (n + 1) s)
  pub ending : List ℕ
  pub tree : Json
  pub before : Spells depth tree (take n s ++ bytes "0" ++ ending)

-- opens the definitions
unfoldable pub placing : Unit {0}
unfolding lexing hex_digit from_outside from_inside step along
placing = tt
