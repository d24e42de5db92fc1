-- A rule of every entry of a table, shown by one test that is computed entry by entry. The test moves on with the table, so no place is counted.
use mathlib.Core.Bool.{Bool, true, false}
use mathlib.Core.List.{List, [], ◌∷◌}
use mathlib.Core.Path.{◌≡◌, refl, sym, ap, ◌∙◌}
use Prim.Native.Nat.{ℕ, zero, suc, ◌<◌}
use native.Mathlib.Omega.{arith}
use lib.Dec.{eqb}
use lib.ListN.{length, get_or}
use borrow.Author.Tests.{eqb-true}
use Rattle.notation.specs.Choice.{◌⇒◌else◌}

-- the values of f at the first n numbers
abbrev pub table : (ℕ → ℕ) → ℕ → List ℕ
table f zero = []
table f (suc n) = f 0 ∷ table (λ i. f (suc i)) n

-- the test f holds of each place and its entry
abbrev pub every : (ℕ → ℕ → Bool) → List ℕ → Bool
every f [] = true
every f (x ∷ xs) = f 0 x ⇒ every (λ i. f (suc i)) xs else false

first : (a b : Bool) → (a ⇒ b else false) ≡ true → a ≡ true
first true b t = refl
first false b t = t

second : (a b : Bool) → (a ⇒ b else false) ≡ true → b ≡ true
second true b t = t
second false b t = cc

pub at : (f : ℕ → ℕ → Bool) (xs : List ℕ) → every f xs ≡ true → (k : ℕ) → k < length xs → f k (get_or xs k 0) ≡ true
at f [] t k h = absurd (omega arith)
at f (x ∷ xs) t zero h = first (f 0 x) (every (λ i. f (suc i)) xs) t
at f (x ∷ xs) t (suc k) h =
    at (λ i. f (suc i)) xs (second (f 0 x) (every (λ i. f (suc i)) xs) t) k (omega arith)

-- A table whose entries are read as values of A, each the value of f at its place: told by numbers for the values, from which they are read back.
pub reads : {A : Type 0} (of : ℕ → A) (code : A → ℕ) → ((a : A) → of (code a) ≡ a) → (f : ℕ → A) (xs : List ℕ)
    → every (λ k x. eqb (code (of x)) (code (f k))) xs ≡ true → (k : ℕ) → k < length xs → of (get_or xs k 0) ≡ f k
reads of code back f xs t k h =
    sym (back (of (get_or xs k 0))) ∙ ap of (eqb-true _ _ (at (λ k x. eqb (code (of x)) (code (f k))) xs t k h)) ∙ back (f k)
