-- The UTF-8 of a code point below 0x10000, by its size.
use mathlib.Core.Path.{◌≡◌}
use Prim.Native.Nat.{ℕ, ◌≤◌, ◌<◌, ◌+◌, ◌/◌, ◌%◌}
use borrow.Author.Tests.{lt-ltb, le-ltb}
use Rattle.lexeme.specs.Character.{char1, char2, char3, encoded}

module _ (v more : ℕ) where
  pub encoded1 : v < 0x80 → char1 v more ≡ encoded v more
  unfolding encoded
  encoded1 h = rw (lt-ltb v 0x80 h, encoded)

  module _ (a : 0x80 ≤ v) where
    pub encoded2 : v < 0x800 → char2 (0xc0 + v / 64) (0x80 + v % 64) more ≡ encoded v more
    unfolding encoded
    encoded2 h = rw (le-ltb v 0x80 a, lt-ltb v 0x800 h, encoded)

    module _ (b : 0x800 ≤ v) where
      pub encoded3 : v < 0x10000 → char3 (0xe0 + v / 4096) (0x80 + v / 64 % 64) (0x80 + v % 64) more ≡ encoded v more
      unfolding encoded
      encoded3 h = rw (le-ltb v 0x80 a, le-ltb v 0x800 b, lt-ltb v 0x10000 h, encoded)
