-- What is found at positions, as faults of their field: the first of two lists together is the lesser of their firsts, and there is none just where
-- nothing is found.
use mathlib.Core.Bool.{Bool, true, false}
use mathlib.Core.List.{List, [], ◌∷◌, ◌++◌}
use mathlib.Core.Path.{◌≡◌, refl, ap, ◌∙◌}
use Prim.Native.Nat.{ℕ}
use native.Mathlib.Omega.{arith}
use Rattle.notation.specs.Choice.{◌⇒◌else◌}
use Rattle.scalar.specs.Scalars.{unless}
use Rattle.fault.specs.declared.Fault.{Fault}
use Rattle.fault.specs.Fault.{fault, lesser, least}
use Rattle.fault.proofs.Leasts as leasts
use Rattle.rings.specs.Rings.{Found, found_at, numbered}
use Rattle.rings.specs.inner.Parts.{fault_at, least_found}
use Rattle.rings.specs.declared.Field.{Field}
use Rattle.std.specs.Prelude.{None}

module _ (rec field : ℕ) where
  pub numbered_append : (xs ys : List Found) → numbered rec field (xs ++ ys) ≡ numbered rec field xs ++ numbered rec field ys
  unfolding numbered
  numbered_append [] ys = refl
  numbered_append (x ∷ xs) ys = ap (λ (l : List Fault). fault rec field x.number x.kind ∷ l) (numbered_append xs ys)

  pub numbered-none : (l : List Found) → numbered rec field l ≡ [] → l ≡ []
  unfolding numbered
  numbered-none [] e = refl
  numbered-none (x ∷ l) e = let z : ◌≡◌ {A = ℕ} 0 1 = cc in absurd (omega arith)

-- at one number
pub at_append : (n : ℕ) (xs ys : List ℕ) → found_at n (xs ++ ys) ≡ found_at n xs ++ found_at n ys
unfolding found_at
at_append n [] ys = refl
at_append n (k ∷ xs) ys = ap (λ (l : List Found). record { number = n; kind = k } ∷ l) (at_append n xs ys)

pub at-nothing : (n : ℕ) (ks : List ℕ) → found_at n ks ≡ [] → ks ≡ []
unfolding found_at
at-nothing n [] e = refl
at-nothing n (k ∷ ks) e = let z : ◌≡◌ {A = ℕ} 0 1 = cc in absurd (omega arith)

module _ (q : Field) where
  pub least_append : (xs ys : List Found) → least_found q (xs ++ ys) ≡ lesser (least_found q xs) (least_found q ys)
  least_append xs ys = ap least (numbered_append q.«record» q.field xs ys) ∙ leasts.least_append _ _

  pub least-of-none : least_found q [] ≡ None
  unfolding least numbered
  least-of-none = refl

  pub least-nothing : (l : List Found) → least_found q l ≡ None → l ≡ []
  least-nothing l e = numbered-none q.«record» q.field l (leasts.least-none _ e)

  module _ (n : ℕ) where
    pub least-one : (k : ℕ) → least_found q (found_at n (k ∷ [])) ≡ fault_at q n k
    unfolding numbered found_at
    least-one k = leasts.least-one (fault q.«record» q.field n k)

    pub least-empty : least_found q (found_at n []) ≡ None
    unfolding found_at
    least-empty = least-of-none

    -- where a test fails, one kind; and none where it holds
    pub least_unless : (t : Bool) (k : ℕ) → least_found q (found_at n (unless t k)) ≡ (t ⇒ None else fault_at q n k)
    least_unless true k = least-empty
    least_unless false k = least-one k

    pub least_at : (xs ys : List ℕ) → least_found q (found_at n (xs ++ ys)) ≡ lesser (least_found q (found_at n xs)) (least_found q (found_at n ys))
    least_at xs ys = ap (least_found q) (at_append n xs ys) ∙ least_append (found_at n xs) (found_at n ys)
