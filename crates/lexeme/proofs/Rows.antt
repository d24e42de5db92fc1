-- Tests in a row, of the bytes of a text one after another, as UTF-8 and the digits of an escape are told: what decides how they end, and that
-- the bytes which meet them are in the text. A byte past its end is 0, which fails every test.
use mathlib.Core.Bool.{Bool, true, false, not}
use mathlib.Core.List.{List, [], ◌∷◌, ◌++◌}
use mathlib.Core.Path.{◌≡◌, refl, sym, ap, ◌∙◌}
use Prim.Native.Nat.{ℕ, zero, suc, ◌+◌, ◌≤◌, ◌<◌}
use native.Mathlib.Omega.{arith}
use lib.Dec.{ltb}
use lib.ListN.{length, drop, take, take-append-drop, get_or-eq_default}
use lib.Seq.{drop-cons}
use borrow.Author.Tests.{ltb-true, ltb-false}
use Rattle.notation.specs.Choice.{◌⇒◌else◌}
use Rattle.lexeme.specs.Character.{byte}
use Rattle.notation.proofs.Booleans.{by_test, true-false}

-- only a byte of the text can differ from 0
pub here : (l : List ℕ) (i : ℕ) → (byte l i ≡ 0 → ⊥) → i < length l
here l i h = by_test (ltb i (length l)) (ltb-true i (length l)) (λ e. absurd (h (get_or-eq_default l 0 (ltb-false i (length l) e))))

-- a test that 0 fails shows that its byte is there
pub passed : (test : ℕ → Bool) → test 0 ≡ false → (l : List ℕ) (i : ℕ) → test (byte l i) ≡ true → i < length l
passed test z l i e = here l i (λ y. true-false e (ap test y ∙ z))

-- the n bytes of l from i on
abbrev pub front : ℕ → ℕ → List ℕ → List ℕ
front zero i l = []
front (suc n) i l = byte l i ∷ front n (suc i) l

pub front-take : (n i : ℕ) (l : List ℕ) → i + n ≤ length l → take n (drop i l) ≡ front n i l
front-take zero i l h = refl
front-take (suc n) i l h =
    rw (drop-cons l i 0 (omega arith)) (ap (λ m. byte l i ∷ m) (front-take n (suc i) l (omega arith)))

pub front_splits : (n : ℕ) (l : List ℕ) → n ≤ length l → l ≡ front n 0 l ++ drop n l
front_splits n l h = sym (take-append-drop n l) ∙ ap (λ p. p ++ drop n l) (front-take n 0 l (omega arith))

-- the bytes from i on, tested: what follows where all tests are met, or else what the first byte that fails its own gives
unfoldable pub row : {A : Type 0} → (ℕ → A) → List (ℕ → Bool) → ℕ → A → List ℕ → A
row fails [] i whole l = whole
row fails (test ∷ ts) i whole l = not (test (byte l i)) ⇒ fails i else row fails ts (suc i) whole l

-- 0 fails each test; the bytes from i on meet them
abbrev pub Strict : List (ℕ → Bool) → Type 0
Strict [] = Unit {0}
Strict (test ∷ ts) = (test 0 ≡ false) × Strict ts

abbrev pub Each : List (ℕ → Bool) → ℕ → List ℕ → Type 0
Each [] i l = Unit {0}
Each (test ∷ ts) i l = (test (byte l i) ≡ true) × Each ts (suc i) l

-- The bytes up to the last that was tested decide, and all but the failing one are in the text.
pub data Decided {A : Type 0} (fails : ℕ → A) (ts : List (ℕ → Bool)) (i : ℕ) (l : List ℕ) : Type 0 where
  all_met : i + length ts ≤ length l → Each ts i l
      → ((whole : A) (m : List ℕ) → ((j : ℕ) → j < i + length ts → byte l j ≡ byte m j) → row fails ts i whole m ≡ whole) → Decided fails ts i l
  failed : (n : ℕ) → i ≤ n → n ≤ length l
      → ((whole : A) (m : List ℕ) → ((j : ℕ) → j ≤ n → byte l j ≡ byte m j) → row fails ts i whole m ≡ fails n) → Decided fails ts i l

pub decided : {A : Type 0} (fails : ℕ → A) (ts : List (ℕ → Bool)) → Strict ts → (i : ℕ) (l : List ℕ) → i ≤ length l → Decided fails ts i l
unfolding row
decided fails [] s i l h = all_met (omega arith) tt (λ whole m g. refl)
decided fails (test ∷ ts) s i l h =
    by_test (test (byte l i)) (λ a. let p : suc i ≤ length l = passed test s.0 l i a in go a (decided fails ts s.1 (suc i) l p))
    (λ a. failed i (omega arith) h (λ whole m g. rw (← g i (omega arith), a)))
  where
    go : test (byte l i) ≡ true → Decided fails ts (suc i) l → Decided fails (test ∷ ts) i l
    go a (all_met p each e) = all_met (omega arith) (a, each) (λ whole m g. rw (← g i (omega arith), a) (e whole m (λ j k. g j (omega arith))))
    go a (failed n b p e) = failed n (omega arith) p (λ whole m g. rw (← g i (omega arith), a) (e whole m g))
