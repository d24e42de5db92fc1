-- Laws of values that need not be there: by the two constructors, which are apart, and one of which keeps its value.
use mathlib.Core.Bool.{false}
use mathlib.Core.Path.{◌≡◌, refl}
use Prim.Native.Nat.{ℕ}
use native.Mathlib.Omega.{arith}
use Rattle.notation.specs.Given.{given}
use Rattle.notation.proofs.Booleans.{true-false}
use Rattle.std.specs.Prelude.{Option, None, Some}

pub none-some : {A B : Type 0} {x : A} → ◌≡◌ {A = Option A} None (Some x) → B
none-some e = let z : ◌≡◌ {A = ℕ} 0 1 = cc in absurd (omega arith)

pub some-some : {A : Type 0} {x y : A} → ◌≡◌ {A = Option A} (Some x) (Some y) → x ≡ y
some-some e = cc

-- where no value is given there is none
pub given-none : {A : Type 0} (o : Option A) → given o ≡ false → o ≡ None
given-none None e = refl
given-none (Some x) e = true-false refl e
