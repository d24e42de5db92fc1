-- Runs of digits. What the reader of digits takes is the run at the front, the loop over a run goes on with its value and its
-- length, and a run's value is below the power of ten of its length: it is a number of digits in base ten.
use mathlib.Core.Bool.{Bool, true, false}
use mathlib.Core.List.{List, [], ◌∷◌, map}
use mathlib.Core.Path.{◌≡◌, refl, sym, ap, ◌∙◌}
use Prim.Native.Nat.{ℕ, zero, suc, ◌+◌, ◌-◌, ◌*◌, ◌^◌, ◌<◌, ◌≤◌}
use native.Mathlib.Nat.{add-zero, pow-succ', zero-add}
use native.Mathlib.Omega.{arith}
use lib.Dec.{leb}
use lib.ListN.{length, get_or, take, drop, drop_of_length-le}
use lib.Pow.{pow-add}
use borrow.Author.Tests.{le-leb, lt-leb, leb-true, leb-false}
use Rattle.notation.proofs.Lists.{at_cons}
use Rattle.radix.specs.Radix.{weight, number_from, number, Fit}
use Rattle.radix.proofs.Digits.{number-below}
use Rattle.lexeme.specs.Read.{made}
use Rattle.lexeme.specs.Read.Read.{done}
use Rattle.lexeme.specs.Character.{within}
use Rattle.lexeme.specs.Numbers.{digit, digits}
use Rattle.decimal.specs.Decimals.{tens, value_of}
use Rattle.decimal.specs.inner.Spelling.{front, value_from, run_from}

-- a digit by the code's tests
pub digit_low : (b : ℕ) → b < 0x30 → false ≡ digit b
unfolding digit within
digit_low b h = rw (lt-leb 0x30 b h)

pub digit-above : (b : ℕ) → 0x30 ≤ b → leb b 0x39 ≡ digit b
unfolding digit within
digit-above b h = rw (le-leb 0x30 b h)

pub digit-range : (b : ℕ) → digit b ≡ true → (0x30 ≤ b) × (b ≤ 0x39)
digit-range b e = go (leb 0x30 b) refl
  where
    go : (t : Bool) → leb 0x30 b ≡ t → (0x30 ≤ b) × (b ≤ 0x39)
    go true h = let l : 0x30 ≤ b = leb-true 0x30 b h in (l, leb-true b 0x39 (digit-above b l ∙ e))
    go false h = let z : ◌≡◌ {A = ℕ} 0 1 = cc (digit_low b (leb-false 0x30 b h)) in absurd (omega arith)

-- the run at the front of a text that begins with a digit, and of one that does not
pub front-digit : (b : ℕ) (r : List ℕ) → digit b ≡ true → front (b ∷ r) ≡ b ∷ front r
unfolding front
front-digit b r e = rw (e, front)

pub front-other : (b : ℕ) (r : List ℕ) → digit b ≡ false → front (b ∷ r) ≡ []
unfolding front
front-other b r e = rw (e, front)

-- what follows the run
abbrev pub beyond : List ℕ → List ℕ
beyond l = drop (length (front l)) l

-- what the reader of digits takes, and what it leaves
pub digits-front : (l : List ℕ) → digits l ≡ done (front l) (beyond l)
unfolding digits made
digits-front [] = unfold front in refl
digits-front (b ∷ r) = go (digit b) refl (digits-front r)
  where
    go : (t : Bool) → digit b ≡ t → digits r ≡ done (front r) (beyond r) → digits (b ∷ r) ≡ done (front (b ∷ r)) (beyond (b ∷ r))
    go true e ih = rw (front-digit b r e, e, digits, ih, made)
    go false e ih = rw (front-other b r e, e, digits)

-- the run is no longer than the text
pub front_length : (l : List ℕ) → length (front l) ≤ length l
front_length [] = unfold front in omega arith
front_length (b ∷ r) = go (digit b) refl (front_length r)
  where
    go : (t : Bool) → digit b ≡ t → length (front r) ≤ length r → length (front (b ∷ r)) ≤ length (b ∷ r)
    go true e ih = rw (front-digit b r e) (omega arith)
    go false e ih = rw (front-other b r e) (omega arith)

-- every byte of the run is a digit
pub front_at : (l : List ℕ) (i : ℕ) → i < length (front l) → digit (get_or l i 0) ≡ true
front_at [] i h = absurd (unfold front in omega arith)
front_at (b ∷ r) i h = go (digit b) refl i h (front_at r)
  where
    go : (t : Bool) → digit b ≡ t → (i : ℕ) → i < length (front (b ∷ r)) → ((j : ℕ) → j < length (front r) → digit (get_or r j 0) ≡ true) →
        digit (get_or (b ∷ r) i 0) ≡ true
    go true e zero h ih = e
    go true e (suc i) h ih = let h' = rw (front-digit b r e) at h in ih i (omega arith)
    go false e i h ih = let h' = rw (front-other b r e) at h in absurd (omega arith)

-- a run of all of a text is the text
pub front-all : (l : List ℕ) → length (front l) ≡ length l → front l ≡ l
front-all [] h = unfold front in refl
front-all (b ∷ r) h = go (digit b) refl (front-all r)
  where
    go : (t : Bool) → digit b ≡ t → (length (front r) ≡ length r → front r ≡ r) → front (b ∷ r) ≡ b ∷ r
    go true e ih = let h' = rw (front-digit b r e) at h in front-digit b r e ∙ ap (λ (q : List ℕ). b ∷ q) (ih (omega arith))
    go false e ih = let h' = rw (front-other b r e) at h in absurd (omega arith)

-- the run at the front of the first n bytes
pub front-take : (n : ℕ) (l : List ℕ) → front (take n l) ≡ take n (front l)
front-take zero l = unfold front in refl
front-take (suc n) [] = unfold front in refl
front-take (suc n) (b ∷ r) = go (digit b) refl (front-take n r)
  where
    go : (t : Bool) → digit b ≡ t → front (take n r) ≡ take n (front r) → front (b ∷ take n r) ≡ take (suc n) (front (b ∷ r))
    go true e ih = rw (front-digit b (take n r) e, front-digit b r e, ih)
    go false e ih = rw (front-other b (take n r) e, front-other b r e)

-- the digits of a run are below ten, so its value is below the power of its length
pub front_fit : (l : List ℕ) → Fit (tens (front l)) (map (λ b. b - 0x30) (front l))
front_fit [] = unfold front in tt
front_fit (b ∷ r) = go (digit b) refl (front_fit r)
  where
    go : (t : Bool) → digit b ≡ t → Fit (tens (front r)) (map (λ b. b - 0x30) (front r)) →
        Fit (tens (front (b ∷ r))) (map (λ b. b - 0x30) (front (b ∷ r)))
    go true e ih = let d = digit-range b e in rw (front-digit b r e) (omega arith, ih)
    go false e ih = rw (front-other b r e) tt

pub tens-weight : (ds : List ℕ) → weight (tens ds) ≡ 10 ^ length ds
unfolding weight
tens-weight [] = refl
tens-weight (b ∷ r) = rw (tens-weight r, pow-succ' 10 (length r))

-- n digits and the digits that they lack of eighteen
pub power_split : (n : ℕ) → n ≤ 18 → 10 ^ n * 10 ^ (18 - n) ≡ 1_000_000_000_000_000_000
power_split n h =
    let e : n + (18 - n) ≡ 18 = omega arith in
    sym (pow-add 10 n (18 - n)) ∙ ap (λ (k : ℕ). 10 ^ k) e

pub front-value : (l : List ℕ) → value_from 0 (front l) < 10 ^ length (front l)
unfolding value_from
front-value l = rw (← tens-weight (front l)) (unfold number in number-below _ _ (front_fit l))

-- the number that digits spell, from nothing
pub value-from : (ds : List ℕ) → value_from 0 ds ≡ value_of ds
unfolding value_from value_of number
value-from ds = refl

-- The loop over a run: at place i, where the digits before it spell v.
module _ (s : List ℕ) (i v : ℕ) where
  pub run_end : length s ≤ i → record { value = v; count = i } ≡ run_from v i (drop i s)
  unfolding run_from front value_from number_from
  run_end h = rw (drop_of_length-le s h, add-zero)

  module _ (h : i < length s) where
    pub run_stop : digit (get_or s i 0) ≡ false → record { value = v; count = i } ≡ run_from v i (drop i s)
    unfolding run_from value_from number_from
    run_stop e = rw (at_cons s i h, front-other (get_or s i 0) (drop (i + 1) s) e, add-zero)

    pub run_next : digit (get_or s i 0) ≡ true → run_from v i (drop i s) ≡ run_from (v * 10 + (get_or s i 0 - 0x30)) (i + 1) (drop (i + 1) s)
    unfolding run_from value_from number_from
    run_next e =
        let r = drop (i + 1) s in
        let n : i + suc (length (front r)) ≡ i + 1 + length (front r) = omega arith in
        rw (at_cons s i h, front-digit (get_or s i 0) r e, n)

-- a run from nothing
pub run_count : (l : List ℕ) → (run_from 0 0 l).count ≡ length (front l)
unfolding run_from
run_count l = zero-add (length (front l))

pub run_value : (l : List ℕ) → (run_from 0 0 l).value ≡ value_from 0 (front l)
unfolding run_from
run_value l = refl

pub run_below : (l : List ℕ) → (run_from 0 0 l).value < 10 ^ (run_from 0 0 l).count
run_below l = rw (run_count l, run_value l) (front-value l)

pub run_within : (l : List ℕ) → (run_from 0 0 l).count ≤ length l
run_within l = rw (run_count l) (front_length l)
