-- What a search for an id finds.
use Rattle.std.specs.Prelude.{List, ◌≡◌, ℕ, ◌+◌, ◌<◌}

-- of n ids: `met` is one more than the number of one that is the same as `id`, or 0 where none is
pub record Finds (ids : ℕ → List ℕ) (n : ℕ) (id : List ℕ) (met : ℕ) : Type 0 where
  pub here : (k : ℕ) → met ≡ k + 1 → (k < n) × (ids k ≡ id)
  pub none : met ≡ 0 → (k : ℕ) → k < n → ids k ≡ id → ⊥
