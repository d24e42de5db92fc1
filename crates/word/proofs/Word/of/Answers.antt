-- The eight bytes are the digits of the parts' number, as the standard library lays them out.
use mathlib.Core.Path.{◌≡◌, ap, ◌∙◌}
use Prim.Native.Nat.{ℕ, ◌/◌}
use native.Mathlib.Omega.{arith}
use Rattle.std.specs.Int.{w64, to_be_bytes}
use Rattle.radix.specs.Radix.{digits, weight}
use Rattle.radix.specs.Fields.{bases, octets, packed}
use Rattle.word.specs.Word.{word_of}
use Rattle.word.proofs.Word.of.Goals as goal

bytes_are : (n : ℕ) → to_be_bytes w64 n ≡ digits (bases (octets 8)) n
unfolding digits weight
bytes_are n = let z : n / 1 ≡ n = omega arith in rw z

pub returns : goal.returns
unfolding word_of packed
returns c = c.to_be_bytes.ensures ∙ bytes_are _ ∙ ap (digits (bases (octets 8))) c.number.ensures
