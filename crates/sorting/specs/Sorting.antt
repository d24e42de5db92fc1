-- Numbers sorted by any order `le`, which tells of two numbers whether the first comes no later than the second.
use Rattle.std.specs.Prelude.{Bool, List, [], ◌∷◌, ℕ, zero, suc, ◌+◌}
use Rattle.notation.specs.Choice.{◌⇒◌else◌}

module _ (le : ℕ → ℕ → Bool) where
  -- x among numbers that are in order
  unfoldable pub insert : ℕ → List ℕ → List ℕ
  insert x [] = x ∷ []
  insert x (y ∷ l) = le x y ⇒ x ∷ y ∷ l else y ∷ insert x l

  unfoldable pub sorted : List ℕ → List ℕ
  sorted [] = []
  sorted (x ∷ l) = insert x (sorted l)

-- n numbers from `first` on
unfoldable pub numbers : (first n : ℕ) → List ℕ
numbers first zero = []
numbers first (suc n) = first ∷ numbers (first + 1) n
