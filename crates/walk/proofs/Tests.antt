-- A byte's tests, as the code makes them by patterns and the definitions by equations.
use mathlib.Core.Bool.{true, false}
use mathlib.Core.Logic.{◌⊎◌, inl, inr}
use mathlib.Core.Path.{◌≡◌}
use Prim.Native.Nat.{ℕ, ◌≤◌, ◌<◌}
use lib.Dec.{eqb}
use borrow.Author.Tests.{eq-eqb, ne_eqb, le-leb, lt-leb}
use Rattle.notation.proofs.Booleans.{by_test}
use Rattle.lexeme.specs.Character.{within}
use Rattle.lexeme.specs.Numbers.{digit, either}

module _ {b : ℕ} where
  pub one-of : (x y : ℕ) → (b ≡ x) ⊎ (b ≡ y) → either x y b ≡ true
  unfolding either
  one-of x y (inl e) = rw (eq-eqb b x e)
  one-of x y (inr e) = by_test (eqb b x) (λ t. rw t) (λ t. rw (t, eq-eqb b y e))

  pub none-of : (x y : ℕ) → (b ≡ x → ⊥) → (b ≡ y → ⊥) → either x y b ≡ false
  unfolding either
  none-of x y m n = rw (ne_eqb b x m, ne_eqb b y n)

  pub digit-between : 0x30 ≤ b → b ≤ 0x39 → digit b ≡ true
  unfolding digit within
  digit-between h i = rw (le-leb 0x30 b h, le-leb b 0x39 i)

  pub digit-below : b < 0x30 → digit b ≡ false
  unfolding digit within
  digit-below h = rw (lt-leb 0x30 b h)

  pub digit-above : 0x30 ≤ b → 0x39 < b → digit b ≡ false
  unfolding digit within
  digit-above h i = rw (le-leb 0x30 b h, lt-leb b 0x39 i)
