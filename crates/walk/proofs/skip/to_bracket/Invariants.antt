use Rattle.std.proofs.Common.{◌≡◌, ℕ, ◌-◌, ◌≤◌, length, drop}
use Prim.Native.Nat.{suc}
use Rattle.walk.specs.inner.Skip.{outside, enclosed}
use Rattle.walk.proofs.skip.to_bracket.Given as goal

abbrev pub invariant-loop-i : goal.invariant-loop-i
invariant-loop-i l = (l.at ≤ l.i) × ((n : ℕ) → enclosed (suc n) outside (drop l.at l.s) ≡ enclosed (suc n) outside (drop l.i l.s))

abbrev pub decreases-loop-i : goal.decreases-loop-i
decreases-loop-i l = length l.s - l.i
