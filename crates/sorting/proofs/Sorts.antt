-- Two sorted runs merge to the whole, sorted: a number put into the first run is put into what both merge to, wherever its place is, since the order is
-- total and transitive. So a list may be sorted by halves.
use mathlib.Core.Bool.{Bool, true, false}
use mathlib.Core.List.{List, [], ◌∷◌, ◌++◌}
use mathlib.Core.Path.{◌≡◌, refl, sym, ap, ◌∙◌}
use Prim.Native.Nat.{ℕ, zero, suc, ◌+◌}
use native.Mathlib.Omega.{arith}
use lib.ListN.{length}
use Rattle.notation.proofs.Booleans.{by_test}
use Rattle.sorting.specs.Sorting.{insert, sorted, numbers}
use Rattle.sorting.specs.inner.Merge.{into, merge}

-- a total order: of two numbers one comes no later than the other, and what comes no later than one of these comes no later than the ones after it
pub record Total (le : ℕ → ℕ → Bool) : Type 0 where
  pub trans : (x y z : ℕ) → le x y ≡ true → le y z ≡ true → le x z ≡ true
  pub total : (x y : ℕ) → le x y ≡ false → le y x ≡ true

-- step equations
module _ (le : ℕ → ℕ → Bool) where
  module _ (x y : ℕ) (l : List ℕ) where
    pub insert-here : le x y ≡ true → insert le x (y ∷ l) ≡ x ∷ y ∷ l
    unfolding insert
    insert-here h = rw (h, insert)

    pub insert-later : le x y ≡ false → insert le x (y ∷ l) ≡ y ∷ insert le x l
    unfolding insert
    insert-later h = rw (h, insert)

  pub merge_none : (xs : List ℕ) → merge le xs [] ≡ xs
  unfolding merge into
  merge_none [] = refl
  merge_none (x ∷ xs) = refl

  module _ (x : ℕ) (xs : List ℕ) (y : ℕ) (ys : List ℕ) where
    pub merge-first : le x y ≡ true → merge le (x ∷ xs) (y ∷ ys) ≡ x ∷ merge le xs (y ∷ ys)
    unfolding merge into
    merge-first h = rw (h, merge, into)

    pub merge-second : le x y ≡ false → merge le (x ∷ xs) (y ∷ ys) ≡ y ∷ merge le (x ∷ xs) ys
    unfolding merge into
    merge-second h = rw (h, merge, into)

module _ (le : ℕ → ℕ → Bool) (t : Total le) (x : ℕ) where
  alone-merge : (ys : List ℕ) → insert le x ys ≡ merge le (x ∷ []) ys
  unfolding insert merge into
  alone-merge [] = refl
  alone-merge (y ∷ ys) =
      by_test (le x y) (λ h. rw (h, insert, merge, into)) λ h. rw (h, insert, merge, into) (ap (λ l. y ∷ l) (alone-merge ys))

  -- into a run of a and xs, where it is so for xs
  module _ (a : ℕ) (xs : List ℕ) (shorter : (ys : List ℕ) → insert le x (merge le xs ys) ≡ merge le (insert le x xs) ys) where
    -- the second run begins with y, before which x and a do not come: so it is the first of both sides
    second-first : (y : ℕ) (ys : List ℕ) → le a y ≡ false → le x y ≡ false → y ∷ merge le (insert le x (a ∷ xs)) ys ≡ merge le (insert le x (a ∷ xs)) (y ∷ ys)
    second-first y ys g h =
        by_test (le x a)
        (λ f. let e = insert-here le x a xs f in ap (λ l. y ∷ merge le l ys) e ∙ sym (ap (λ l. merge le l (y ∷ ys)) e ∙ merge-second le x (a ∷ xs) y ys h))
        λ f. let e = insert-later le x a xs f in ap (λ l. y ∷ merge le l ys) e ∙ sym (ap (λ l. merge le l (y ∷ ys)) e ∙ merge-second le a (insert le x xs) y ys g)

    -- x comes first of all
    x_first : (y : ℕ) (ys : List ℕ) → le x a ≡ true → le x y ≡ true → x ∷ merge le (a ∷ xs) (y ∷ ys) ≡ merge le (insert le x (a ∷ xs)) (y ∷ ys)
    x_first y ys g h = sym (ap (λ l. merge le l (y ∷ ys)) (insert-here le x a xs g) ∙ merge-first le x (a ∷ xs) y ys h)

    longer : (ys : List ℕ) → insert le x (merge le (a ∷ xs) ys) ≡ merge le (insert le x (a ∷ xs)) ys
    longer [] = ap (insert le x) (merge_none le (a ∷ xs)) ∙ sym (merge_none le (insert le x (a ∷ xs)))
    longer (y ∷ ys) =
        by_test (le a y)
        (λ g.
        let m = merge-first le a xs y ys g in
        by_test (le x a)
        (λ h. ap (insert le x) m ∙ insert-here le x a _ h ∙ ap (λ l. x ∷ l) (sym m) ∙ x_first y ys h (t.trans x a y h g))
        λ h.
        ap (insert le x) m ∙ insert-later le x a _ h ∙ ap (λ l. a ∷ l) (shorter (y ∷ ys))
        ∙ sym (ap (λ l. merge le l (y ∷ ys)) (insert-later le x a xs h) ∙ merge-first le a (insert le x xs) y ys g))
        λ g.
        let m = merge-second le a xs y ys g in
        by_test (le x y)
        (λ h. ap (insert le x) m ∙ insert-here le x y _ h ∙ ap (λ l. x ∷ l) (sym m) ∙ x_first y ys (t.trans x y a h (t.total a y g)) h)
        λ h. ap (insert le x) m ∙ insert-later le x y _ h ∙ ap (λ l. y ∷ l) (longer ys) ∙ second-first y ys g h

  insert-merge : (xs ys : List ℕ) → insert le x (merge le xs ys) ≡ merge le (insert le x xs) ys
  unfolding merge insert
  insert-merge [] ys = alone-merge ys
  insert-merge (a ∷ xs) ys = longer a xs (insert-merge xs) ys

module _ (le : ℕ → ℕ → Bool) (t : Total le) where
  pub merge-sorted : (xs ys : List ℕ) → merge le (sorted le xs) (sorted le ys) ≡ sorted le (xs ++ ys)
  unfolding sorted merge
  merge-sorted [] ys = refl
  merge-sorted (x ∷ xs) ys = sym (insert-merge le t x (sorted le xs) (sorted le ys)) ∙ ap (insert le x) (merge-sorted xs ys)

-- numbers in a row
pub numbers_append : (first m k : ℕ) → numbers first m ++ numbers (first + m) k ≡ numbers first (m + k)
unfolding numbers
numbers_append first zero k = let z : first + 0 ≡ first = omega arith in let y : 0 + k ≡ k = omega arith in rw (z, y)
numbers_append first (suc m) k =
    let z : first + suc m ≡ first + 1 + m = omega arith in let y : suc m + k ≡ suc (m + k) = omega arith in
    rw (z, y, numbers) (ap (λ l. first ∷ l) (numbers_append (first + 1) m k))

pub numbers-length : (first n : ℕ) → length (numbers first n) ≡ n
unfolding numbers
numbers-length first zero = refl
numbers-length first (suc n) = ap suc (numbers-length (first + 1) n)

module _ (le : ℕ → ℕ → Bool) where
  insert-length : (x : ℕ) (l : List ℕ) → length (insert le x l) ≡ suc (length l)
  unfolding insert
  insert-length x [] = refl
  insert-length x (y ∷ l) = by_test (le x y) (λ h. rw (h, insert)) λ h. rw (h, insert) (ap suc (insert-length x l))

  pub sorted-length : (l : List ℕ) → length (sorted le l) ≡ length l
  unfolding sorted
  sorted-length [] = refl
  sorted-length (x ∷ l) = insert-length x (sorted le l) ∙ ap suc (sorted-length l)

  -- one number
  pub sorted-one : (first : ℕ) → sorted le (numbers first 1) ≡ first ∷ []
  unfolding sorted insert numbers
  sorted-one first = refl

  -- both halves of numbers in a row
  pub halves-sorted : Total le → (first m k : ℕ) → merge le (sorted le (numbers first m)) (sorted le (numbers (first + m) k)) ≡ sorted le (numbers first (m + k))
  halves-sorted t first m k = merge-sorted le t (numbers first m) (numbers (first + m) k) ∙ ap (sorted le) (numbers_append first m k)
