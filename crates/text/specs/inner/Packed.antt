-- Some bytes at a place as one number, the first counting least, by which they are compared at once.
use Rattle.std.specs.Prelude.{Bool, true, false, List, ◌≡◌, ℕ, ◌+◌, ◌*◌, ◌≤◌, ◌<◌, get_or}

abbrev pub four : List ℕ → ℕ → ℕ
four s at = get_or s at 0 + get_or s (at + 1) 0 * 256 + get_or s (at + 2) 0 * 65536 + get_or s (at + 3) 0 * 16777216

abbrev pub eight : List ℕ → ℕ → ℕ
eight s at = four s at + four s (at + 4) * 4294967296

-- r tells whether the n bytes at a place are the same in a and b
pub record SameAt (n at : ℕ) (a b : List ℕ) (r : Bool) : Type 0 where
  pub alike : r ≡ true → (k : ℕ) → at ≤ k → k < at + n → get_or a k 0 ≡ get_or b k 0
  pub differ : r ≡ false → a ≡ b → ⊥
