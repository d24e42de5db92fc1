-- The tests on the exact value, by the sign and the size: a number in the form is below 0 just where it has a sign, and it is within k
-- of 0 where its size is at most k units. On whole and part this is linear.
use mathlib.Core.Bool.{Bool, true, false, not}
use mathlib.Core.Path.{◌≡◌, refl, sym, ap, ◌∙◌}
use Prim.Native.Nat.{ℕ, ◌+◌, ◌*◌, ◌/◌, ◌%◌, ◌<◌, ◌≤◌}
use native.Mathlib.Decide.{ℕ_discrete}
use native.Mathlib.Omega.{arith}
use lib.Dec.{eqb, leb}
use lib.IntN.{pos, neg_ℤ}
use lib.Signed.{le_z}
use borrow.Author.Tests.{eq-eqb, ne_eqb, le-leb, lt-leb}
use Rattle.notation.specs.Choice.{◌⇒◌else◌, ◌and◌}
use Rattle.notation.proofs.Booleans.{and-true}
use Rattle.signed.specs.Signed.{signed}
use Rattle.signed.proofs.Gap.{gap_neg, gap_natural, signed_le, signed_across}
use Rattle.decimal.specs.declared.Decimal.{Decimal}
use Rattle.decimal.specs.declared.Amount.{Amount}
use Rattle.decimal.specs.Exact.{unit, size, exact, natural, portion, in_range, amount_of, money_of}
use Rattle.decimal.specs.inner.Formed.{Formed}
use Rattle.std.specs.Prelude.{Some, None}

natural-signed : (s : Bool) (n : ℕ) → (s ≡ true → 0 < n) → not s ≡ le_z (pos 0) (signed s n)
natural-signed true n h = sym (gap_natural (gap_neg n) ∙ lt-leb n 0 (h refl))
natural-signed false n h = sym (le-leb 0 n (omega arith))

pub natural-is : (d : Decimal) → Formed d → not d.negative ≡ natural d
unfolding natural exact
natural-is d f = natural-signed d.negative (size d) f.sign

within_signed : (s : Bool) (n m : ℕ) → leb n m ≡ (le_z (neg_ℤ (pos m)) (signed s n) and le_z (signed s n) (pos m))
within_signed true n m = rw (signed_le true m n, signed_across n m) (sym (and-true (leb n m)))
within_signed false n m = rw (signed_across m n)

pub within-is : (k : ℕ) (d : Decimal) → leb (size d) (k * unit) ≡ in_range k d
unfolding in_range exact
within-is k d = within_signed d.negative (size d) (k * unit)

-- by the whole part, and where that is k itself by the rest
module _ (k : ℕ) (d : Decimal) (f : Formed d) where
  pub within_less : d.whole < k → true ≡ in_range k d
  within_less h = let j : size d ≤ k * unit = omega (arith, f.part) in sym (le-leb (size d) (k * unit) j) ∙ within-is k d

  pub within_more : k < d.whole → false ≡ in_range k d
  within_more h = let j : k * unit < size d = omega arith in sym (lt-leb (size d) (k * unit) j) ∙ within-is k d

  pub within_even : k ≤ d.whole → d.whole ≤ k → eqb d.part 0 ≡ in_range k d
  within_even a b = go (ℕ_discrete d.part 0) ∙ within-is k d
    where
      go : Dec (d.part ≡ 0) → eqb d.part 0 ≡ leb (size d) (k * unit)
      go (yes z) = let j : size d ≤ k * unit = omega arith in eq-eqb d.part 0 z ∙ sym (le-leb (size d) (k * unit) j)
      go (no z) = let j : k * unit < size d = omega (arith, z) in ne_eqb d.part 0 z ∙ sym (lt-leb (size d) (k * unit) j)

-- from 0 to 1
below-signed : (s : Bool) (n : ℕ) → (s ≡ true → 0 < n) → s ≡ true → false ≡ (le_z (pos 0) (signed s n) and le_z (signed s n) (pos unit))
below-signed s n h e = rw (← natural-signed s n h) (rw e refl)

within-portion : (s : Bool) (n : ℕ) → s ≡ false → leb n unit ≡ (le_z (pos 0) (signed s n) and le_z (signed s n) (pos unit))
within-portion s n e = rw e (rw (le-leb 0 n (omega arith)) refl)

module _ (d : Decimal) (f : Formed d) where
  pub portion-below : d.negative ≡ true → false ≡ portion d
  unfolding portion exact
  portion-below e = below-signed d.negative (size d) f.sign e

  pub portion-within : d.negative ≡ false → in_range 1 d ≡ portion d
  unfolding portion exact
  portion-within e = sym (within-is 1 d) ∙ within-portion d.negative (size d) e

  -- money
  rest-is : size d % 100_000_000_000_000 ≡ d.part % 100_000_000_000_000
  rest-is = omega arith

  pub money_much : in_range 1_000_000 d ≡ false → None ≡ money_of d
  unfolding money_of
  money_much e = rw e

  module _ (e : in_range 1_000_000 d ≡ true) where
    pub money_fine : (d.part % 100_000_000_000_000 ≡ 0 → ⊥) → None ≡ money_of d
    unfolding money_of
    money_fine n = rw (e, rest-is, ne_eqb (d.part % 100_000_000_000_000) 0 n)

    pub money_is : d.part % 100_000_000_000_000 ≡ 0 → Some (amount_of d) ≡ money_of d
    unfolding money_of
    money_is z = rw (e, rest-is, eq-eqb (d.part % 100_000_000_000_000) 0 z)

-- an amount, by whole and part; and what is money has that amount
pub amount-parts : (d : Decimal) → record { negative = d.negative; size = d.whole * 10_000 + d.part / 100_000_000_000_000 } ≡ amount_of d
amount-parts d =
    let q : d.whole * 10_000 + d.part / 100_000_000_000_000 ≡ size d / 100_000_000_000_000 = omega arith in
    ap (λ (n : ℕ). record { negative = d.negative; size = n }) q

pub money_amount : (d : Decimal) (a : Amount) → money_of d ≡ Some a → amount_of d ≡ a
unfolding money_of
money_amount d a e = go (in_range 1_000_000 d and eqb (size d % 100_000_000_000_000) 0) e
  where
    go : (t : Bool) → (t ⇒ Some (amount_of d) else None) ≡ Some a → amount_of d ≡ a
    go true e = cc
    go false e = let z : ◌≡◌ {A = ℕ} 0 1 = cc in absurd (omega arith)

-- what each test of the code decides
pub ruleset portion_rules = (portion-below, portion-within)

pub ruleset money_rules = (money_much, money_fine, money_is)
