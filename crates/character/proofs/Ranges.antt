-- A number between two bounds, by the tests of either.
use mathlib.Core.Bool.{false}
use mathlib.Core.Path.{◌≡◌}
use Prim.Native.Nat.{ℕ, ◌≤◌, ◌<◌}
use lib.Dec.{leb}
use borrow.Author.Tests.{le-leb, lt-leb}
use Rattle.lexeme.specs.Character.{within}

module _ (lo hi b : ℕ) where
  pub within-rest : lo ≤ b → leb b hi ≡ within lo hi b
  unfolding within
  within-rest h = rw (le-leb lo b h, within)

  pub within_low : b < lo → false ≡ within lo hi b
  unfolding within
  within_low h = rw (lt-leb lo b h, within)
