use mathlib.Core.Path.{◌≡◌}
use Prim.Native.Nat.{◌≤◌, ◌<◌, ◌-◌, ◌*◌, ◌^◌}
use Rattle.decimal.proofs.spelling.Run.scaled.Given as goal

abbrev pub invariant-loop : goal.invariant-loop
invariant-loop l = (l.counter ≤ 18) × (l.v < 10 ^ l.counter) × (l.v * 10 ^ (18 - l.counter) ≡ l.initial.v * 10 ^ (18 - l.initial.counter))
