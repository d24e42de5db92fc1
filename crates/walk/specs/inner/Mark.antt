-- Some bytes of a text as one number, and how many of them stand before the first mark.
use Rattle.std.specs.Prelude.{Bool, true, false, List, [], ◌∷◌, ◌≡◌, ℕ, suc, ◌+◌, ◌*◌, ◌≤◌, ◌<◌, eqb, length, drop}
use Rattle.std.specs.Int.Bits.{bit_and}
use Rattle.notation.specs.Choice.{◌⇒◌else◌}
use Rattle.lexeme.specs.Character.{byte}
use Rattle.lexeme.specs.Numbers.{either}
use Rattle.walk.specs.inner.Skip.{outside, enclosed}

-- the number of some bytes, the first counting least
unfoldable pub packed : List ℕ → ℕ
packed [] = 0
packed (b ∷ l) = packed l * 256 + b

-- how many bytes stand before the first mark; all where there is none
unfoldable pub before : (ℕ → Bool) → List ℕ → ℕ
before mark [] = 0
before mark (b ∷ l) = elim (mark b) [ true ↦ 0 | false ↦ suc (before mark l) ]

-- what ends a string, or begins an escape in it
unfoldable pub string_mark : ℕ → Bool
string_mark b = either 0x22 0x5c b

-- what has the bits that all brackets have in common: a bracket, Y, y, _ or 0x7f
unfoldable pub bracket_like : ℕ → Bool
bracket_like b = eqb (bit_and b 0xd9) 0x59

-- such a byte, or a quotation mark
unfoldable pub bracket_mark : ℕ → Bool
bracket_mark b = eqb b 0x22 ⇒ true else bracket_like b

-- Outside strings no bracket stands between the places `at` and r, so that what closes one that is open is found from either. With eight bytes ahead, r is the
-- later place unless a bracket may stand at `at` itself.
pub record Reaches (s : List ℕ) (at r : ℕ) : Type 0 where
  pub same : (n : ℕ) → enclosed (suc n) outside (drop at s) ≡ enclosed (suc n) outside (drop r s)
  pub from : at ≤ r
  pub later : at + 8 ≤ length s → bracket_like (byte s at) ≡ false → at < r
