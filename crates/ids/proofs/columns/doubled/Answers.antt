-- The truth as a number.
use mathlib.Core.Bool.{Bool, true, false}
use mathlib.Core.Path.{◌≡◌, refl, ap, ◌∙◌}
use Prim.Native.Nat.{◌+◌, ◌*◌}
use mir.Val.{bool_byte}
use Rattle.ids.specs.inner.Notes.{bit}
use Rattle.ids.proofs.columns.doubled.Goals as goal

bit_is : (b : Bool) → bool_byte b ≡ bit b
bit_is true = refl
bit_is false = refl

pub returns : goal.returns
returns c = ap (λ n. 2 * c.args.member + n) (c.from.ensures ∙ bit_is c.args.passes)
