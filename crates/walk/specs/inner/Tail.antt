-- Where a text ends, but for blanks.
use Rattle.std.specs.Prelude.{false, List, [], ◌≡◌, ℕ, ◌-◌, ◌≤◌, ◌<◌, length, drop, get_or}
use Rattle.lexeme.specs.Tokens.{blank, blanks}

-- r is just past the last byte of s that is no blank; 0 where there is none
pub record Tail (s : List ℕ) (r : ℕ) : Type 0 where
  pub inside : r ≤ length s
  pub empty : blanks (drop r s) ≡ []
  pub solid : 0 < r → blank (get_or s (r - 1) 0) ≡ false
