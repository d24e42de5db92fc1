-- A list of records whose two halves are sorted: how each half comes to stand in it, and that their merge is the whole, sorted.
use mathlib.Core.Bool.{Bool}
use mathlib.Core.List.{List, [], ◌∷◌, ◌++◌, append-nil}
use mathlib.Core.Path.{◌≡◌, refl, sym, ap, ◌∙◌}
use Prim.Native.Nat.{ℕ, ◌+◌, ◌-◌, ◌≤◌, ◌<◌}
use native.Mathlib.Omega.{arith}
use lib.ListN.{length, take, drop, set, length-drop, length-append, drop_of_length-le}
use lib.Seq.{take_at, drop_at}
use Rattle.sorting.specs.Sorting.{sorted, numbers}
use Rattle.sorting.specs.inner.Merge.{merge}
use Rattle.sorting.proofs.Rests.{to_end}
use Rattle.sorting.proofs.Sorts.{Total, sorted-length, numbers-length, sorted-one, halves-sorted}

-- the elements from m on, as long as the list has any
pub back-length : (s : List ℕ) (m : ℕ) → length (take (length s - m) (drop m s)) ≡ length s - m
back-length s m = ap length (to_end s m) ∙ length-drop m s

-- others put in their place
pub back-put : (s : List ℕ) (m : ℕ) {x y : List ℕ} → x ≡ y → take m s ++ (x ++ drop (length s - m) (drop m s)) ≡ take m s ++ y
back-put s m {x} {y} e =
    let n : length (drop m s) ≤ length s - m = omega (arith, length-drop m s) in
    ap (λ l. take m s ++ l) (ap (λ l. x ++ l) (drop_of_length-le (drop m s) n) ∙ append-nil x ∙ e)

module _ (le : ℕ → ℕ → Bool) (first : ℕ) where
  -- no record, and one
  pub none-sorted : (s : List ℕ) → length s < 1 → s ≡ sorted le (numbers first (length s))
  unfolding sorted numbers
  none-sorted [] h = refl
  none-sorted (x ∷ s) h = absurd (omega arith)

  pub one-sorted : (s : List ℕ) → 1 ≤ length s → length s < 2 → set s 0 first ≡ sorted le (numbers first (length s))
  one-sorted [] g h = absurd (omega arith)
  one-sorted (x ∷ []) g h = sym (sorted-one le first)
  one-sorted (x ∷ y ∷ s) g h = absurd (omega arith)

  run_length : (n : ℕ) → length (sorted le (numbers first n)) ≡ n
  run_length n = sorted-length le (numbers first n) ∙ numbers-length first n

  -- both halves: the first is put into s, the second into t, which that makes, and u is what comes of it
  pub halves-whole : Total le → (m : ℕ) (s t u : List ℕ) → m ≤ length s → t ≡ sorted le (numbers first m) ++ drop m s
      → u ≡ take m t ++ sorted le (numbers (first + m) (length t - m)) → merge le (take m u) (drop m u) ≡ sorted le (numbers first (length s))
  halves-whole order m s t u h e f =
      let a = sorted le (numbers first m) in
      let n : length t ≡ length s = omega (arith, ap length e, length-append (sorted le (numbers first m)) (drop m s), run_length m, length-drop m s) in
      let z : m + (length t - m) ≡ length s = omega arith in
      let b = sorted le (numbers (first + m) (length t - m)) in
      let g : u ≡ a ++ b = f ∙ ap (λ l. l ++ b) (ap (take m) e ∙ take_at a (drop m s) m (run_length m)) in
      ap (λ l. merge le (take m l) (drop m l)) g
      ∙ ap (λ l. merge le l (drop m (a ++ b))) (take_at a b m (run_length m))
      ∙ ap (merge le a) (drop_at a b m (run_length m))
      ∙ halves-sorted le order first m (length t - m)
      ∙ ap (λ k. sorted le (numbers first k)) z
