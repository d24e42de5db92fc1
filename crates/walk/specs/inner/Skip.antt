-- Where a value ends, told by its quotation marks and brackets alone: of a value that was read once, nothing need be read again.
use Rattle.std.specs.Prelude.{Bool, true, false, List, [], ◌∷◌, ℕ, zero, suc, eqb, drop}
use Rattle.lexeme.specs.Read.Read.{done, bad}
use Rattle.lexeme.specs.Numbers.{either, number}
use Rattle.lexeme.specs.inner.Start.{Start, start}

-- the rest behind a string's closing quotation mark; the test says that the byte at the front is escaped
unfoldable pub quoted : Bool → List ℕ → List ℕ
quoted escaped [] = []
quoted true (b ∷ l) = quoted false l
quoted false (b ∷ l) = elim (eqb b 0x22) [ true ↦ l | false ↦ quoted (eqb b 0x5c) l ]

-- where the text at the front stands: outside strings, or inside one, its first byte escaped or not
pub data Side : Type 0 where
  outside : Side
  inside : Bool → Side

-- the rest behind the bracket that closes the last of n open ones; brackets in strings are passed over
unfoldable pub enclosed : ℕ → Side → List ℕ → List ℕ
enclosed n side [] = []
enclosed n (inside true) (b ∷ l) = enclosed n (inside false) l
enclosed n (inside false) (b ∷ l) = elim (eqb b 0x22) [ true ↦ enclosed n outside l | false ↦ enclosed n (inside (eqb b 0x5c)) l ]
enclosed zero outside (b ∷ l) = b ∷ l
enclosed (suc n) outside (b ∷ l) =
    elim (eqb b 0x22) [
      | true ↦ enclosed (suc n) (inside false) l
      | false ↦
          elim (either 0x5b 0x7b b) [
            | true ↦ enclosed (suc (suc n)) outside l
            | false ↦ elim (either 0x5d 0x7d b) [ true ↦ enclosed n outside l | false ↦ enclosed (suc n) outside l ]
          ]
    ]

-- the rest behind the number at the front; the text itself where none stands there
unfoldable pub numbered : List ℕ → List ℕ
numbered l = elim (number l) [ done s r ↦ r | bad k r ↦ l ]

-- the rest behind the value at the front, by its first byte; the text itself where none begins there
unfoldable pub skipped : List ℕ → List ℕ
skipped [] = []
skipped (b ∷ l) =
    elim (start b) [
      | Start.string ↦ quoted false l
      | Start.number ↦ numbered (b ∷ l)
      | Start.array ↦ enclosed 1 outside l
      | Start.object ↦ enclosed 1 outside l
      | Start.letter_t ↦ drop 4 (b ∷ l)
      | Start.letter_f ↦ drop 5 (b ∷ l)
      | Start.letter_n ↦ drop 4 (b ∷ l)
      | Start.other ↦ b ∷ l
    ]
