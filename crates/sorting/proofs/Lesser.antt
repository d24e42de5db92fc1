-- The lesser of two numbers, by the tests in the order of the definition.
use mathlib.Core.Bool.{false}
use mathlib.Core.Path.{◌≡◌}
use Prim.Native.Nat.{ℕ, ◌≤◌, ◌<◌}
use native.Mathlib.Omega.{arith}
use lib.Dec.{eqb}
use borrow.Author.Tests.{eq-eqb, ne_eqb, lt-ltb, le-ltb}
use Rattle.sorting.specs.inner.Lesser.{lesser}

pub lesser-none : (a b : ℕ) → b ≡ 0 → lesser a b ≡ a
unfolding lesser
lesser-none a b e = rw (lesser, eq-eqb b 0 e)

module _ (a b : ℕ) (g : 0 < b) where
  some : eqb b 0 ≡ false
  some = ne_eqb b 0 (λ (e : b ≡ 0). omega arith)

  pub lesser-only : a ≡ 0 → lesser a b ≡ b
  unfolding lesser
  lesser-only e = rw (lesser, some, eq-eqb a 0 e)

  module _ (h : 0 < a) where
    pub lesser-second : b < a → lesser a b ≡ b
    unfolding lesser
    lesser-second l = rw (lesser, some, ne_eqb a 0 (λ (e : a ≡ 0). omega arith), lt-ltb b a l)

    pub lesser-first : a ≤ b → lesser a b ≡ a
    unfolding lesser
    lesser-first l = rw (lesser, some, ne_eqb a 0 (λ (e : a ≡ 0). omega arith), le-ltb b a l)

pub ruleset lessers = (lesser-none, lesser-only, lesser-second, lesser-first)
