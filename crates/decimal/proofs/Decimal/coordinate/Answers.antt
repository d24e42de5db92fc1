-- A number within k is within k when it is rounded, so k degrees up it is not below 0.
use mathlib.Core.Bool.{Bool, true, false}
use mathlib.Core.Path.{◌≡◌, sym, ap, ◌∙◌}
use Prim.Native.Nat.{ℕ, ◌+◌, ◌-◌, ◌*◌, ◌≤◌}
use native.Mathlib.Omega.{arith}
use lib.IntN.{nat_abs}
use Rattle.signed.specs.Signed.{signed}
use Rattle.signed.specs.inner.Difference.{difference}
use Rattle.signed.proofs.Gap.{gap, gap_neg, gap_pos, gap_same, signed-size}
use Rattle.decimal.specs.declared.Decimal.{Decimal}
use Rattle.decimal.specs.Exact.{in_range, millionths}
use Rattle.decimal.proofs.Millionths.{millionths-within}
use Rattle.decimal.proofs.Decimal.coordinate.Goals as goal

-- the rounded size is at most k degrees
module _ (d : Decimal) (k n : ℕ) (e : signed d.negative n ≡ millionths d) where
  small : in_range k d ≡ true → n ≤ k * 1_000_000
  small h = let q : nat_abs (millionths d) ≡ n = ap nat_abs (sym e) ∙ signed-size d.negative n in omega (arith, millionths-within k d h, q)

  below : d.negative ≡ true → n ≤ k * 1_000_000 → difference (k * 1_000_000 - n) (k * 1_000_000) ≡ millionths d
  below s h = gap_same (gap (k * 1_000_000 - n) (k * 1_000_000)) (gap_neg n) (omega arith) ∙ ap (λ (b : Bool). signed b n) (sym s) ∙ e

  above : d.negative ≡ false → difference (k * 1_000_000 + n) (k * 1_000_000) ≡ millionths d
  above s = gap_same (gap (k * 1_000_000 + n) (k * 1_000_000)) (gap_pos n) (omega arith) ∙ ap (λ (b : Bool). signed b n) (sym s) ∙ e

pub returns-then-self : goal.returns-then-self
returns-then-self c = below c.args.self _ _ c.rounded-size.ensures c.if-self.true (small c.args.self c.args.k c.rounded-size.result c.rounded-size.ensures c.requires.1)

pub overflow_add-result : goal.overflow_add-result
overflow_add-result c = omega (arith, c.requires.2, small c.args.self c.args.k c.rounded-size.result c.rounded-size.ensures c.requires.1)

pub returns-else-self : goal.returns-else-self
returns-else-self c = above c.args.self _ _ c.rounded-size.ensures c.if-self.false

pub overflow_sub-result : goal.overflow_sub-result
overflow_sub-result c = small c.args.self c.args.k c.rounded-size.result c.rounded-size.ensures c.requires.1
