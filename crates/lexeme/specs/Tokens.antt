-- Blanks and words: RFC 8259, sections 2 and 3.
use Rattle.std.specs.Prelude.{Bool, true, false, List, [], ◌∷◌, ℕ, eqb}
use Rattle.word.specs.Kinds.{not_json}
use Rattle.lexeme.specs.Read.{Read}
use Rattle.lexeme.specs.Read.Read.{done, bad}
use Rattle.notation.specs.Choice.{◌⇒◌else◌}
use Rattle.lexeme.specs.Numbers.{either}

-- space, tab, line feed, carriage return
unfoldable pub blank : ℕ → Bool
blank b = either 0x20 0x09 b ⇒ true else either 0x0a 0x0d b

-- the text after the blanks at its front
unfoldable pub blanks : List ℕ → List ℕ
blanks [] = []
blanks (b ∷ r) = elim (blank b) [ true ↦ blanks r | false ↦ b ∷ r ]

-- the word at the front, which stands for x; a fault is at the first byte that differs
unfoldable pub literal : {A : Type 0} → List ℕ → A → List ℕ → Read A
literal [] x l = done x l
literal (c ∷ w) x [] = bad not_json []
literal (c ∷ w) x (b ∷ r) = elim (eqb b c) [ true ↦ literal w x r | false ↦ bad not_json (b ∷ r) ]
