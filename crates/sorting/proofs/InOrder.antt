-- A sorted list is in order and holds the same numbers: what is put into it comes after those before it and before those after it, since the order is total and
-- transitive.
use mathlib.Core.Bool.{Bool, true}
use mathlib.Core.List.{List, [], ◌∷◌}
use mathlib.Core.Logic.{◌⊎◌, inl, inr, ⊎_elim}
use mathlib.Core.Path.{◌≡◌, refl, sym, subst}
use Prim.Native.Nat.{ℕ, zero, suc, ◌+◌, ◌≤◌, ◌<◌}
use native.Mathlib.Omega.{arith}
use lib.Dec.{leb}
use lib.ListN.{length, get_or}
use borrow.Author.Tests.{leb-true, leb-false}
use Rattle.notation.proofs.Booleans.{by_test}
use Rattle.sorting.specs.Sorting.{insert, sorted, numbers}
use Rattle.sorting.proofs.Sorts.{Total}

-- a list has a number
abbrev pub Has : ℕ → List ℕ → Type 0
Has k [] = ⊥
Has k (x ∷ l) = (k ≡ x) ⊎ Has k l

-- somewhere
pub has-at : (k : ℕ) (l : List ℕ) → Has k l → (i : ℕ) × (i < length l) × (get_or l i 0 ≡ k)
has-at k (x ∷ l) (inl e) = (0, omega arith, sym e)
has-at k (x ∷ l) (inr h) = let w = has-at k l h in let n = w.1 in (suc w.0, omega arith, w.2)
has-at k [] x' = elim x' [ ]

pub at_has : (l : List ℕ) (i : ℕ) → i < length l → Has (get_or l i 0) l
at_has [] i h = absurd (omega arith)
at_has (x ∷ l) zero h = inl refl
at_has (x ∷ l) (suc i) h = inr (at_has l i (omega arith))

-- numbers in a row
pub numbers-has : (k first n : ℕ) → first ≤ k → k < first + n → Has k (numbers first n)
unfolding numbers
numbers-has k first zero g h = absurd (omega arith)
numbers-has k first (suc n) g h =
    by_test (leb k first) (λ t. let m : k ≤ first = leb-true k first t in inl (omega arith)) λ t.
    let m : first < k = leb-false k first t in inr (numbers-has k (first + 1) n (omega arith) (omega arith))

pub has-numbers : (k first n : ℕ) → Has k (numbers first n) → (first ≤ k) × (k < first + n)
unfolding numbers
has-numbers k first zero h = absurd h
has-numbers k first (suc n) (inl e) = (omega arith, omega arith)
has-numbers k first (suc n) (inr h) = let w = has-numbers k (first + 1) n h in (omega (arith, w.0), omega (arith, w.1))

-- no number comes twice
abbrev pub Apart : List ℕ → Type 0
Apart [] = Unit {0}
Apart (x ∷ l) = (Has x l → ⊥) × Apart l

pub numbers_apart : (first n : ℕ) → Apart (numbers first n)
unfolding numbers
numbers_apart first zero = tt
numbers_apart first (suc n) = ((λ h. let w = has-numbers first (first + 1) n h in omega (arith, w.0)), numbers_apart (first + 1) n)

pub apart-at : (l : List ℕ) → Apart l → (i j : ℕ) → i < j → j < length l → get_or l i 0 ≡ get_or l j 0 → ⊥
apart-at [] a i j g h e = omega arith
apart-at (x ∷ l) a zero zero g h e = omega arith
apart-at (x ∷ l) a zero (suc j) g h e = a.0 (subst (λ k. Has k l) (sym e) (at_has l j (omega arith)))
apart-at (x ∷ l) a (suc i) zero g h e = omega arith
apart-at (x ∷ l) a (suc i) (suc j) g h e = apart-at l a.1 i j (omega arith) (omega arith) e

module _ (le : ℕ → ℕ → Bool) where
  -- what a list has, with one number more: past its first, where that is so of the rest
  module _ (k x y : ℕ) (l : List ℕ) where
    past_first : (Has k (x ∷ l) → Has k (insert le x l)) → Has k (x ∷ y ∷ l) → Has k (y ∷ insert le x l)
    past_first rest (inl e) = inr (rest (inl e))
    past_first rest (inr (inl e)) = inl e
    past_first rest (inr (inr h)) = inr (rest (inr h))

    first_past : (Has k (insert le x l) → Has k (x ∷ l)) → Has k (y ∷ insert le x l) → Has k (x ∷ y ∷ l)
    first_past rest (inl e) = inr (inl e)
    first_past rest (inr h) = ⊎_elim (λ e. inl e) (λ g. inr (inr g)) (rest h)

  has-insert : (k x : ℕ) (l : List ℕ) → Has k (x ∷ l) → Has k (insert le x l)
  unfolding insert
  has-insert k x [] h = h
  has-insert k x (y ∷ l) h = let rest = has-insert k x l in by_test (le x y) (λ t. rw (t, insert) h) λ t. rw (t, insert) (past_first k x y l rest h)

  insert-has : (k x : ℕ) (l : List ℕ) → Has k (insert le x l) → Has k (x ∷ l)
  unfolding insert
  insert-has k x [] h = h
  insert-has k x (y ∷ l) h =
      let rest = insert-has k x l in by_test (le x y) (λ t. rw (t, insert) at h) λ t. first_past k x y l rest (rw (t, insert) at h)

  pub has-sorted : (k : ℕ) (l : List ℕ) → Has k l → Has k (sorted le l)
  unfolding sorted
  has-sorted k (x ∷ l) (inl e) = has-insert k x (sorted le l) (inl e)
  has-sorted k (x ∷ l) (inr h) = has-insert k x (sorted le l) (inr (has-sorted k l h))
  has-sorted k [] x' = elim x' [ ]

  pub sorted-has : (k : ℕ) (l : List ℕ) → Has k (sorted le l) → Has k l
  unfolding sorted
  sorted-has k [] h = h
  sorted-has k (x ∷ l) h = let rest = sorted-has k l in ⊎_elim (λ e. inl e) (λ g. inr (rest g)) (insert-has k x (sorted le l) h)

  insert-apart : (x : ℕ) (l : List ℕ) → (Has x l → ⊥) → Apart l → Apart (insert le x l)
  unfolding insert
  insert-apart x [] n a = ((λ h. h), tt)
  insert-apart x (y ∷ l) n a =
      by_test (le x y) (λ t. rw (t, insert) (n, a)) λ t. rw (t, insert) ((λ h. other (insert-has y x l h)), insert-apart x l (λ h. n (inr h)) a.1)
    where
      other : Has y (x ∷ l) → ⊥
      other (inl e) = n (inl (sym e))
      other (inr h) = a.0 h

  pub sorted_apart : (l : List ℕ) → Apart l → Apart (sorted le l)
  unfolding sorted
  sorted_apart [] a = tt
  sorted_apart (x ∷ l) a = insert-apart x (sorted le l) (λ h. a.0 (sorted-has x l h)) (sorted_apart l a.1)

module _ (le : ℕ → ℕ → Bool) (t : Total le) where
  -- x comes no later than any
  abbrev First : ℕ → List ℕ → Type 0
  First x [] = Unit {0}
  First x (y ∷ l) = (le x y ≡ true) × First x l

  abbrev pub InOrder : List ℕ → Type 0
  InOrder [] = Unit {0}
  InOrder (x ∷ l) = First x l × InOrder l

  first_trans : (x y : ℕ) (l : List ℕ) → le x y ≡ true → First y l → First x l
  first_trans x y [] h f = tt
  first_trans x y (z ∷ l) h f = (t.trans x y z h f.0, first_trans x y l h f.1)

  first-insert : (x y : ℕ) (l : List ℕ) → le x y ≡ true → First x l → First x (insert le y l)
  unfolding insert
  first-insert x y [] h f = (h, tt)
  first-insert x y (z ∷ l) h f = by_test (le y z) (λ g. rw (g, insert) (h, f)) λ g. rw (g, insert) (f.0, first-insert x y l h f.1)

  insert-order : (x : ℕ) (l : List ℕ) → InOrder l → InOrder (insert le x l)
  unfolding insert
  insert-order x [] o = (tt, tt)
  insert-order x (y ∷ l) o =
      by_test (le x y) (λ g. rw (g, insert) ((g, first_trans x y l g o.0), o))
      λ g. rw (g, insert) (first-insert y x l (t.total x y g) o.0, insert-order x l o.1)

  pub sorted-order : (l : List ℕ) → InOrder (sorted le l)
  unfolding sorted
  sorted-order [] = tt
  sorted-order (x ∷ l) = insert-order x (sorted le l) (sorted-order l)

  first-at : (x : ℕ) (l : List ℕ) → First x l → (j : ℕ) → j < length l → le x (get_or l j 0) ≡ true
  first-at x [] f j h = absurd (omega arith)
  first-at x (y ∷ l) f zero h = f.0
  first-at x (y ∷ l) f (suc j) h = first-at x l f.1 j (omega arith)

  pub order-at : (l : List ℕ) → InOrder l → (i j : ℕ) → i < j → j < length l → le (get_or l i 0) (get_or l j 0) ≡ true
  order-at [] o i j g h = absurd (omega arith)
  order-at (x ∷ l) o zero zero g h = absurd (omega arith)
  order-at (x ∷ l) o zero (suc j) g h = first-at x l o.0 j (omega arith)
  order-at (x ∷ l) o (suc i) zero g h = absurd (omega arith)
  order-at (x ∷ l) o (suc i) (suc j) g h = order-at l o.1 i j (omega arith) (omega arith)
