-- Each test of `is_plain` decides those of the definition that it stands for.
use mathlib.Core.Bool.{not, false}
use mathlib.Core.Path.{◌≡◌}
use Prim.Native.Nat.{ℕ, ◌≤◌, ◌<◌}
use native.Mathlib.Omega.{arith}
use lib.Dec.{eqb, ltb}
use borrow.Author.Tests.{eq-eqb, ne_eqb, lt-ltb, le-ltb}
use Rattle.notation.proofs.Booleans.{by_test}
use Rattle.text.specs.inner.Walk.{alone}

pub above : (b : ℕ) → 0x5c < b → ltb b 0x80 ≡ alone b
unfolding alone
above b h = rw (ne_eqb b 0x22 (λ e. omega arith), ne_eqb b 0x5c (λ e. omega arith), le-ltb b 0x20 (omega arith), alone)

pub backslash : (b : ℕ) → b ≡ 0x5c → false ≡ alone b
unfolding alone
backslash b h = rw (ne_eqb b 0x22 (λ e. omega arith), eq-eqb b 0x5c h, alone)

pub control : (b : ℕ) → b < 0x20 → false ≡ alone b
unfolding alone
control b h = rw (ne_eqb b 0x22 (λ e. omega arith), ne_eqb b 0x5c (λ e. omega arith), lt-ltb b 0x20 h, alone)

pub below : (b : ℕ) → 0x20 ≤ b → b < 0x5c → not (eqb b 0x22) ≡ alone b
unfolding alone
below b h i =
    by_test (eqb b 0x22) (λ t. rw (t, alone)) λ t.
    rw (t, ne_eqb b 0x5c (λ e. omega arith), le-ltb b 0x20 h, lt-ltb b 0x80 (omega arith), alone)
