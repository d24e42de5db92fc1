-- Two runs of numbers that are in order, merged.
use Rattle.std.specs.Prelude.{Bool, true, false, List, [], ◌∷◌, ℕ}
use Rattle.notation.specs.Choice.{◌⇒◌else◌}

module _ (le : ℕ → ℕ → Bool) where
  -- the run of x and xs with a second one, where `rest` merges xs with any
  unfoldable pub into : ℕ → List ℕ → (rest : List ℕ → List ℕ) → List ℕ → List ℕ
  into x xs rest [] = x ∷ xs
  into x xs rest (y ∷ ys) = le x y ⇒ x ∷ rest (y ∷ ys) else y ∷ into x xs rest ys

  unfoldable pub merge : List ℕ → List ℕ → List ℕ
  merge [] ys = ys
  merge (x ∷ xs) ys = into x xs (merge xs) ys

  -- the next of both comes from the first
  unfoldable pub leads : List ℕ → List ℕ → Bool
  leads [] ys = false
  leads (x ∷ xs) [] = true
  leads (x ∷ xs) (y ∷ ys) = le x y
