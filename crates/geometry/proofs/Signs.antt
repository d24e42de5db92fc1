-- The sign of a positive number times a difference is that of the difference: so it tells the order of the two numbers that differ.
use mathlib.Core.Bool.{Bool, true, false, not}
use mathlib.Core.Path.{◌≡◌, refl, sym, ap, ap₂, ◌∙◌}
use Prim.Native.Nat.{zero, suc, ◌+◌, ◌*◌}
use native.Mathlib.Omega.{arith}
use lib.Dec.{ltb}
use lib.IntN.{ℤ, pos, negsuc, neg_ℤ, ◌-ℤ◌, ◌*ℤ◌}
use lib.Signed.{le_z, lt_z}
use borrow.Author.Tests.{lt-ltb, le-ltb}
use Rattle.notation.specs.Choice.{◌and◌}
use Rattle.signed.proofs.Gap.{gap_same, gap_minus, gap_mul, gap_negated, gap_lt, gap_above, gap_below}
use Rattle.signed.proofs.Parts.{up, down, parts}
use Rattle.geometry.specs.Ring.{equal}
use Rattle.geometry.proofs.Tests.{differ, less_is, above_negated}

not-not : (t : Bool) → not (not t) ≡ t
not-not true = refl
not-not false = refl

le_is : (z w : ℤ) → le_z z w ≡ not (lt_z w z)
le_is z w = sym (ap not (less_is w z) ∙ not-not (le_z z w))

-- a difference
pub above-minus : (z w : ℤ) → lt_z (pos 0) (w -ℤ z) ≡ lt_z z w
above-minus z w =
    let e : down w + up z ≡ up z + down w = omega arith in
    gap_above (gap_minus (parts w) (parts z)) ∙ ap (λ n. ltb n (up w + down z)) e ∙ sym (gap_lt (parts z) (parts w))

below-minus : (z w : ℤ) → lt_z (w -ℤ z) (pos 0) ≡ lt_z w z
below-minus z w =
    let e : down w + up z ≡ up z + down w = omega arith in
    gap_below (gap_minus (parts w) (parts z)) ∙ ap (ltb (up w + down z)) e ∙ sym (gap_lt (parts w) (parts z))

-- a multiple
pub above-times : (p z : ℤ) → lt_z (pos 0) p ≡ true → lt_z (pos 0) (p *ℤ z) ≡ lt_z (pos 0) z
above-times (pos zero) z h = absurd (differ h)
above-times (pos (suc n)) (pos zero) h = le-ltb 0 (suc n * 0) (omega arith)
above-times (pos (suc n)) (pos (suc k)) h = lt-ltb 0 (suc n * suc k) (omega arith) ∙ sym (lt-ltb 0 (suc k) (omega arith))
above-times (pos (suc n)) (negsuc k) h = above_negated (pos (suc n * suc k)) ∙ le-ltb (suc n * suc k) 0 (omega arith)
above-times (negsuc n) z h = absurd (differ h)

below-times : (p z : ℤ) → lt_z (pos 0) p ≡ true → lt_z (p *ℤ z) (pos 0) ≡ lt_z z (pos 0)
below-times p z h =
    let e = gap_same (gap_negated (gap_mul (parts p) (parts z))) (gap_mul (parts p) (gap_negated (parts z))) (omega arith) in
    sym (above_negated (p *ℤ z)) ∙ ap (lt_z (pos 0)) e ∙ above-times p (neg_ℤ z) h ∙ above_negated z

-- s is a positive number times u less v
module _ (s p u v : ℤ) (h : lt_z (pos 0) p ≡ true) (e : s ≡ p *ℤ (u -ℤ v)) where
  pub sign_above : lt_z (pos 0) s ≡ not (le_z u v)
  sign_above = ap (lt_z (pos 0)) e ∙ above-times p (u -ℤ v) h ∙ above-minus v u ∙ less_is v u

  pub sign_below : lt_z s (pos 0) ≡ not (le_z v u)
  sign_below = ap (λ z. lt_z z (pos 0)) e ∙ below-times p (u -ℤ v) h ∙ below-minus v u ∙ less_is u v

  pub sign_zero : equal s (pos 0) ≡ (le_z u v and le_z v u)
  sign_zero =
      ap₂ ◌and◌ (le_is s (pos 0) ∙ ap not sign_above ∙ not-not (le_z u v)) (le_is (pos 0) s ∙ ap not sign_below ∙ not-not (le_z v u))
