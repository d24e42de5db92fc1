-- The loop over a byte string: after i bytes, those that are left decide the whole number.
use mathlib.Core.List.{List}
use mathlib.Core.Path.{◌≡◌}
use Prim.Native.Nat.{ℕ, suc, ◌+◌, ◌-◌, ◌*◌, ◌<◌, ◌≤◌}
use native.Mathlib.Numerals.{add-one}
use native.Mathlib.Omega.{arith}
use lib.ListN.{length, get_or, drop}
use lib.Seq.{drop-cons}
use Rattle.radix.specs.Radix.{number_from, number}
use Rattle.radix.specs.Fields.{bases, octets, bytes_number}

-- the number of s, where the bytes before place i spell n
unfoldable pub number_at : List ℕ → ℕ → ℕ → ℕ
number_at s i n = number_from n (bases (octets (length s - i))) (drop i s)

one_less : (n i : ℕ) → i < n → n - i ≡ suc (n - (i + 1))
one_less n i h = omega arith

pub number-next : (s : List ℕ) (i n : ℕ) → i < length s → number_at s i n ≡ number_at s (i + 1) (n * 256 + get_or s i 0)
unfolding number_at number_from
number-next s i n h = rw (one_less (length s) i h, add-one i, drop-cons s i 0 h)

pub number-end : (s : List ℕ) (i n : ℕ) → length s ≤ i → number_at s i n ≡ n
unfolding number_at number_from
number-end s i n h = let z : length s - i ≡ 0 = omega arith in rw z

pub number-start : (s : List ℕ) → number_at s 0 0 ≡ bytes_number s
unfolding number_at bytes_number number
number-start s = let z : length s - 0 ≡ length s = omega arith in rw z
