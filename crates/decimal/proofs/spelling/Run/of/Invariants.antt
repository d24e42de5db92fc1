use mathlib.Core.Path.{◌≡◌}
use Prim.Native.Nat.{◌≤◌, ◌<◌, ◌^◌}
use lib.ListN.{length, drop}
use Rattle.decimal.specs.inner.Spelling.{run_from}
use Rattle.decimal.proofs.spelling.Run.of.Given as goal

abbrev pub invariant-loop-count : goal.invariant-loop-count
invariant-loop-count l = (l.count ≤ length l.s) × (l.value < 10 ^ l.count) × (run_from l.value l.count (drop l.count l.s) ≡ run_from 0 0 l.s)
