-- A character that stands for itself in so many bytes.
use Rattle.std.specs.Prelude.{List, ◌≡◌, ℕ, ◌-◌, ◌<◌, ltb}
use Rattle.notation.specs.Choice.{◌⇒◌else◌}
use Rattle.lexeme.specs.declared.Char.{Char}
use Rattle.lexeme.specs.declared.Next.{Next}
use Rattle.lexeme.specs.declared.Next.TheVariants.{Character}
use Rattle.lexeme.specs.Character.{byte}

-- its byte k, or 0
abbrev pub tail_byte : List ℕ → (n k : ℕ) → ℕ
tail_byte l n k = ltb k n ⇒ byte l k else 0

-- the first n bytes as a character
abbrev pub standing : List ℕ → ℕ → Char
standing l n = record { b0 = byte l 0; b1 = byte l 1; b2 = tail_byte l n 2; b3 = tail_byte l n 3; len = n; more = n - 1 }

abbrev pub Stands : List ℕ → ℕ → Next → Type 0
Stands l n o = o ≡ Character (standing l n)

-- it has n bytes, one at least, and is that character
abbrev pub Told : List ℕ → ℕ → Next → Type 0
Told l n o = (0 < n) × Stands l n o
