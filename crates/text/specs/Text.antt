-- What is asked of a string's text, always of its decoded bytes: document 01 judges names and strings after decoding escapes.
-- `spelled` is what stands between the quotation marks.
use Rattle.std.specs.Prelude.{Bool, true, false, List, [], ◌∷◌, map, ℕ, ◌+◌, eqb}
use Rattle.notation.specs.Choice.{◌⇒◌else◌, ◌and◌}
use Rattle.lexeme.specs.Character.{paired, within}
use Rattle.lexeme.specs.Strings.{decoded}

-- the bytes that a spelling stands for
abbrev pub text_of : List ℕ → List ℕ
text_of spelled = decoded paired 0 spelled

-- what bytes mean: raw ones themselves, a spelling its text
abbrev pub meant : (raw : Bool) → List ℕ → List ℕ
meant true s = s
meant false s = text_of s

-- the same bytes
unfoldable pub same : List ℕ → List ℕ → Bool
same [] [] = true
same [] (b ∷ y) = false
same (a ∷ x) [] = false
same (a ∷ x) (b ∷ y) = eqb a b and same x y

-- a byte with ASCII capitals made small
unfoldable pub lower : ℕ → ℕ
lower b = within 0x41 0x5a b ⇒ b + 0x20 else b

-- the same words, whatever the case of their ASCII letters
unfoldable pub same_word : List ℕ → List ℕ → Bool
same_word x y = same (map lower x) (map lower y)
