-- Tests of order in ℤ: each is one of the sign of a difference. So they say the same of numbers that are moved alike, and the opposite
-- ones of numbers that are negated.
use mathlib.Core.Bool.{Bool, true, false, not}
use mathlib.Core.Path.{◌≡◌, refl, sym, ap, ◌∙◌}
use Prim.Native.Nat.{ℕ, zero, suc, ◌+◌, ◌≤◌, ◌<◌}
use native.Mathlib.Omega.{arith}
use lib.Dec.{ltb, leb, eqb}
use lib.IntN.{ℤ, pos, negsuc, neg_ℤ, ◌+ℤ◌, ◌-ℤ◌}
use lib.Signed.{le_z, lt_z}
use borrow.Author.Tests.{leb-true, leb-false, ltb-true, ltb-false, eqb-false, le-leb, lt-ltb, le-ltb, eq-eqb, ne_eqb}
use Rattle.notation.specs.Choice.{◌⇒◌else◌, ◌and◌}
use Rattle.signed.specs.inner.Difference.{is_zero}
use Rattle.signed.proofs.Gap.{Gap, gap_same, gap_add, gap_minus, gap_negated, gap_le, gap_lt, gap_natural, gap_zero, gap_above, gap_below}
use Rattle.signed.proofs.Parts.{up, down, parts}
use Rattle.geometry.specs.Ring.{equal}
use Rattle.geometry.specs.Held.{between}

pub differ : false ≡ true → ⊥
differ e = let z : ◌≡◌ {A = ℕ} 0 1 = cc in omega arith

-- in ℕ
less_nat : (m n : ℕ) → ltb m n ≡ not (leb n m)
less_nat m n = go (leb n m) refl
  where
    go : (t : Bool) → leb n m ≡ t → ltb m n ≡ not t
    go true e = le-ltb m n (leb-true n m e)
    go false e = lt-ltb m n (leb-false n m e)

pub equal_nat : (m n : ℕ) → (leb m n and leb n m) ≡ eqb m n
equal_nat m n = go (leb m n) refl (leb n m) refl
  where
    go : (s : Bool) → leb m n ≡ s → (t : Bool) → leb n m ≡ t → (s and t) ≡ eqb m n
    go true e true f = sym (eq-eqb m n (omega (arith, leb-true m n e, leb-true n m f)))
    go true e false f = sym (ne_eqb m n (omega (arith, leb-false n m f)))
    go false e t f = sym (ne_eqb m n (omega (arith, leb-false m n e)))

other_nat : (m n : ℕ) → eqb m n ≡ false → ltb n m ≡ not (ltb m n)
other_nat m n h = go (ltb m n) refl
  where
    go : (t : Bool) → ltb m n ≡ t → ltb n m ≡ not t
    go true e = le-ltb n m (omega (arith, ltb-true m n e))
    go false e = lt-ltb n m (omega (arith, ltb-false m n e, eqb-false m n h))

-- zero
zero_is : (z : ℤ) → equal z (pos 0) ≡ is_zero z
zero_is (pos k) = equal_nat k 0
zero_is (negsuc k) = refl

pub gap_equal : {z : ℤ} {a b : ℕ} → Gap z a b → equal z (pos 0) ≡ eqb a b
gap_equal {z} g = zero_is z ∙ gap_zero g

pub zero_negated : (z : ℤ) → equal (neg_ℤ z) (pos 0) ≡ equal z (pos 0)
zero_negated (pos zero) = refl
zero_negated (pos (suc k)) = sym (zero_is (pos (suc k)) ∙ ne_eqb (suc k) 0 (omega arith))
zero_negated (negsuc k) = zero_is (pos (suc k)) ∙ ne_eqb (suc k) 0 (omega arith)

pub below_negated : (z : ℤ) → lt_z (neg_ℤ z) (pos 0) ≡ lt_z (pos 0) z
below_negated z = gap_below (gap_negated (parts z)) ∙ sym (gap_above (parts z))

pub above_negated : (z : ℤ) → lt_z (pos 0) (neg_ℤ z) ≡ lt_z z (pos 0)
above_negated z = gap_above (gap_negated (parts z)) ∙ sym (gap_below (parts z))

pub above_or_below : (z : ℤ) → equal z (pos 0) ≡ false → lt_z (pos 0) z ≡ not (lt_z z (pos 0))
above_or_below z e =
    gap_above (parts z) ∙ other_nat (up z) (down z) (sym (gap_equal (parts z)) ∙ e) ∙ ap not (sym (gap_below (parts z)))

-- two numbers
pub less_is : (z w : ℤ) → lt_z z w ≡ not (le_z w z)
less_is z w =
    gap_lt (parts z) (parts w) ∙ less_nat (up z + down w) (up w + down z) ∙ ap not (sym (gap_le (parts w) (parts z)))

le_minus : (z w : ℤ) → le_z z w ≡ le_z (pos 0) (w -ℤ z)
le_minus z w =
    let e : up z + down w ≡ down w + up z = omega arith in
    gap_le (parts z) (parts w) ∙ ap (λ n. leb n (up w + down z)) e ∙ sym (gap_natural (gap_minus (parts w) (parts z)))

pub le_self : (z : ℤ) → le_z z z ≡ true
le_self z = gap_le (parts z) (parts z) ∙ le-leb (up z + down z) (up z + down z) (omega arith)

pub at_most : (z w : ℤ) → le_z z w ≡ true → up z + down w ≤ up w + down z
at_most z w e = leb-true (up z + down w) (up w + down z) (sym (gap_le (parts z) (parts w)) ∙ e)

pub more : (z w : ℤ) → le_z z w ≡ false → up w + down z < up z + down w
more z w e = leb-false (up z + down w) (up w + down z) (sym (gap_le (parts z) (parts w)) ∙ e)

pub equal-same : (z w : ℤ) → le_z z w ≡ true → le_z w z ≡ true → z ≡ w
equal-same z w e f = gap_same (parts z) (parts w) (omega (arith, at_most z w e, at_most w z f))

-- whichever end is named first
pub between-swapped : (a b c : ℤ) → between b a c ≡ between a b c
between-swapped a b c = go (le_z a b) refl (le_z b a) refl
  where
    go : (s : Bool) → le_z a b ≡ s → (t : Bool) → le_z b a ≡ t
        → (t ⇒ le_z b c and le_z c a else le_z a c and le_z c b) ≡ (s ⇒ le_z a c and le_z c b else le_z b c and le_z c a)
    go true e true f = ap (λ x. le_z b c and le_z c x) (equal-same a b e f) ∙ ap (λ x. le_z x c and le_z c b) (sym (equal-same a b e f))
    go true e false f = refl
    go false e true f = refl
    go false e false f = absurd (omega (arith, more a b e, more b a f))

-- moved alike
pub minus-moved : (z w d : ℤ) → (z +ℤ d) -ℤ (w +ℤ d) ≡ z -ℤ w
minus-moved z w d =
    gap_same (gap_minus (gap_add (parts z) (parts d)) (gap_add (parts w) (parts d))) (gap_minus (parts z) (parts w)) (omega arith)

pub le_moved : (z w d : ℤ) → le_z (z +ℤ d) (w +ℤ d) ≡ le_z z w
le_moved z w d = le_minus (z +ℤ d) (w +ℤ d) ∙ ap (le_z (pos 0)) (minus-moved w z d) ∙ sym (le_minus z w)

pub lt_moved : (z w d : ℤ) → lt_z (z +ℤ d) (w +ℤ d) ≡ lt_z z w
lt_moved z w d = less_is (z +ℤ d) (w +ℤ d) ∙ ap not (le_moved w z d) ∙ sym (less_is z w)
