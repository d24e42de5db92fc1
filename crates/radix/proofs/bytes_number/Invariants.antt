use mathlib.Core.Path.{◌≡◌}
use Prim.Native.Nat.{◌<◌, ◌^◌}
use Rattle.radix.specs.Fields.{bytes_number}
use Rattle.radix.proofs.Bytes.{number_at}
use Rattle.radix.proofs.bytes_number.Given as goal

abbrev pub invariant-loop-b : goal.invariant-loop-b
invariant-loop-b l = (l.n < 256 ^ l.b-index) × (number_at l.s l.b-index l.n ≡ bytes_number l.s)
