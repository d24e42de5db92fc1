-- Within its digits a run's value is below their power of ten.
use mathlib.Core.Path.{◌≡◌}
use Prim.Native.Nat.{min}
use native.Mathlib.Omega.{arith}
use Rattle.decimal.proofs.quoted.Progress.value.Goals as goal

pub decimal-requires : goal.decimal-requires
decimal-requires c =
    let m : min c.args.self.part.count 18 ≡ c.args.self.part.count = omega (arith, c.requires.1) in
    (c.requires.1, rw m at c.requires.0.part)
