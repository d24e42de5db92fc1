-- The one bit shifted by the width is the field's base, since the width is below 64.
use mathlib.Core.Path.{◌≡◌}
use Prim.Native.Nat.{ℕ, ◌*◌, ◌%◌, ◌^◌, ◌<◌}
use native.Mathlib.Nat.{mod-eq_of_lt, one-mul}
use lib.Pow.{pow_pos, pow-lt}
use Rattle.radix.proofs.field_of.Goals as goal

base : (width : ℕ) → width < 64 → 1 * 2 ^ width % 2 ^ 64 ≡ 2 ^ width
base width h = rw one-mul (mod-eq_of_lt (pow-lt h))

pub nonzero_rem-result : goal.nonzero_rem-result
nonzero_rem-result c = rw (base c.args.width c.requires.1) (pow_pos c.args.width)

pub returns : goal.returns
returns c = rw (base c.args.width c.requires.1)
