-- A longer ride is charged at every moment at which a shorter one is. So without a negative rate no charge falls, and what is asked is zero or the sum:
-- it does not fall either. Where all segments have ended, charges and marks are those of the shorter ride, whatever the rates.
use mathlib.Core.Bool.{Bool, true, false, true≢false}
use mathlib.Core.List.Memᴰ
use mathlib.Core.List.{List, [], ◌∷◌}
use mathlib.Core.Path.{◌≡◌, refl, sym, ap₂, ◌∙◌}
use Prim.Native.Nat.{ℕ, zero, suc, ◌+◌, ◌*◌, ◌≤◌}
use native.Mathlib.Nat.{mul-le-mul_left, le_trans}
use native.Mathlib.Omega.{arith}
use lib.Dec.{eqb, leb}
use lib.IntN.{ℤ, pos, negsuc, ◌+ℤ◌, ◌*ℤ◌}
use lib.ListN.{length}
use lib.Signed.{le_z}
use borrow.Author.Tests.{le-leb, leb-true}
use Rattle.notation.specs.Choice.{◌⇒◌else◌}
use Rattle.notation.proofs.Booleans.{and_left, and_right}
use Rattle.signed.proofs.Gap.{gap_pos, gap_add, gap_le}
use Rattle.signed.proofs.Parts.{up, down, parts}
use Rattle.decimal.specs.Exact.{ten_thousandths}
use Rattle.fare.specs.declared.Minutes.{Minutes}
use Rattle.fare.specs.declared.Kilometres.{Kilometres}
use Rattle.fare.specs.declared.Segment.{Segment}
use Rattle.fare.specs.Charges.{charged, moments_from, moments, charge, charges, sum, clamped, amount, past}
use Rattle.fare.specs.Longer.{NoNegativeRate, Settled}
use Rattle.fare.proofs.Past.{charges-same, past-set, past-ends}

-- a moment that is charged stays charged, and so there are no fewer
module _ (s : Segment) (a b : ℕ) (h : a ≤ b) where
  charged-longer : (t : ℕ) → charged s a t ≡ true → charged s b t ≡ true
  unfolding charged
  charged-longer t e =
      let k : t ≤ a = leb-true t a (and_left (leb t a) _ e) in
      rw (le-leb t b (omega arith)) (and_right (leb t a) _ e)

  from-longer : (n m t : ℕ) → n ≤ m → length (moments_from s a n t) ≤ length (moments_from s b m t)
  unfolding moments_from
  from-longer zero m t l = omega arith
  from-longer (suc n) zero t l = absurd (omega arith)
  from-longer (suc n) (suc m) t l = go (charged s a t) refl (from-longer n m (t + s.interval) (omega arith))
    where
      go : (c : Bool) → charged s a t ≡ c → length (moments_from s a n (t + s.interval)) ≤ length (moments_from s b m (t + s.interval))
          → length (moments_from s a (suc n) t) ≤ length (moments_from s b (suc m) t)
      go true e ih = rw (moments_from, e, charged-longer t e) (omega arith)
      go false e ih = rw (moments_from, e) (omega arith)

  moments-longer : length (moments s a) ≤ length (moments s b)
  unfolding moments
  moments-longer = go (eqb s.interval 0)
    where
      go : (once : Bool) → length (moments_from s a (once ⇒ 1 else a + 1) s.start) ≤ length (moments_from s b (once ⇒ 1 else b + 1) s.start)
      go true = from-longer 1 1 s.start (omega arith)
      go false = from-longer (a + 1) (b + 1) s.start (omega arith)

-- what segments charge where no rate is negative, as a natural number
unfoldable collected : List Segment → ℕ → ℕ
collected [] ride = 0
collected (s ∷ l) ride = up (ten_thousandths s.rate) * length (moments s ride) + collected l ride

collected_longer : (l : List Segment) (a b : ℕ) → a ≤ b → collected l a ≤ collected l b
unfolding collected
collected_longer [] a b h = omega arith
collected_longer (s ∷ l) a b h =
    omega (arith, mul-le-mul_left (up (ten_thousandths s.rate)) (moments-longer s a b h), collected_longer l a b h)

times : (z : ℤ) (n : ℕ) → le_z (pos 0) z ≡ true → z *ℤ pos n ≡ pos (up z * n)
times (pos k) n e = refl
times (negsuc k) n e = absurd (true≢false (sym e))

charges_collected : (l : List Segment) (ride : ℕ) → NoNegativeRate l → charges l ride ≡ pos (collected l ride)
unfolding charges charge collected
charges_collected [] ride h = refl
charges_collected (s ∷ l) ride h =
    ap₂ ◌+ℤ◌ (times (ten_thousandths s.rate) (length (moments s ride)) (h s (Memᴰ.head refl))) (charges_collected l ride (λ t i. h t (Memᴰ.tail i)))

-- more is added, and negative sums all come to zero
clamped-order : (z w : ℤ) → le_z z w ≡ true → le_z (clamped z) (clamped w) ≡ true
clamped-order (pos m) (pos n) e = e
clamped-order (pos m) (negsuc n) e = absurd (true≢false (sym e))
clamped-order (negsuc m) (pos n) e = le-leb 0 n (omega arith)
clamped-order (negsuc m) (negsuc n) e = refl

sum-longer : (z : ℤ) (a b c d : ℕ) → a ≤ b → c ≤ d → le_z (clamped (z +ℤ pos a +ℤ pos c)) (clamped (z +ℤ pos b +ℤ pos d)) ≡ true
sum-longer z a b c d h k =
    clamped-order (z +ℤ pos a +ℤ pos c) (z +ℤ pos b +ℤ pos d)
    (gap_le (gap_add (gap_add (parts z) (gap_pos a)) (gap_pos c)) (gap_add (gap_add (parts z) (gap_pos b)) (gap_pos d))
    ∙ le-leb (up z + a + c + (down z + 0 + 0)) (up z + b + d + (down z + 0 + 0)) (omega arith))

module _ (price : ℤ) (per_minute per_kilometre : List Segment) {minutes minutes' : Minutes} {kilometres kilometres' : Kilometres}
    (longer : minutes.count ≤ minutes'.count) (farther : kilometres.count ≤ kilometres'.count) where
  pub amount-longer : NoNegativeRate per_minute → NoNegativeRate per_kilometre
      → le_z (amount price per_minute per_kilometre minutes kilometres) (amount price per_minute per_kilometre minutes' kilometres') ≡ true
  unfolding amount sum
  amount-longer m k =
      rw (
        charges_collected per_minute minutes.count m,
        charges_collected per_minute minutes'.count m,
        charges_collected per_kilometre kilometres.count k,
        charges_collected per_kilometre kilometres'.count k,
      )
      (sum-longer price (collected per_minute minutes.count) (collected per_minute minutes'.count)
      (collected per_kilometre kilometres.count) (collected per_kilometre kilometres'.count)
      (collected_longer per_minute minutes.count minutes'.count longer)
      (collected_longer per_kilometre kilometres.count kilometres'.count farther))

  pub amount-settled : Settled per_minute minutes.count → Settled per_kilometre kilometres.count
      → amount price per_minute per_kilometre minutes kilometres ≡ amount price per_minute per_kilometre minutes' kilometres'
  unfolding amount sum
  amount-settled m k =
      ap₂ (λ (x y : ℤ). clamped (price +ℤ x +ℤ y))
      (charges-same per_minute minutes.count minutes'.count m.ended m.late (le_trans m.late longer))
      (charges-same per_kilometre kilometres.count kilometres'.count k.ended k.late (le_trans k.late farther))

-- a mark stays as it is; and where one is set, the segments have ended
pub past-settled : (l : List Segment) (a b : ℕ) → a ≤ b → Settled l a → past l a ≡ past l b
unfolding past
past-settled [] a b h e = refl
past-settled (s ∷ l) a b h e = past-set s l a e.ended e.late ∙ sym (past-set s l b e.ended (le_trans e.late h))

pub settled-past : (l : List Segment) (ride : ℕ) → past l ride ≡ true → Settled l ride
settled-past l ride e = let m = past-ends l ride e in record { ended = m.0; late = m.1 }
