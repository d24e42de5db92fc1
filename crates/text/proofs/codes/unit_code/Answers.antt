-- Each way through the code is one through the definition; every byte is below 256 by the test before it.
use mathlib.Core.Path.{sym}
use native.Mathlib.Omega.{arith}
use Rattle.character.proofs.Forms.{encoded1, encoded2, encoded3}
use Rattle.text.proofs.codes.unit_code.Goals as goal

pub returns-then-v-lt128 : goal.returns-then-v-lt128
returns-then-v-lt128 c h = record { char = _; is = sym (encoded1 c.args.v 5 c.if-v-lt128.true); packs = c.pack.ensures h }

pub returns-then-v-lt2048 : goal.returns-then-v-lt2048
returns-then-v-lt2048 c h =
    record { char = _; is = sym (encoded2 c.args.v 5 c.if-v-lt128.false c.if-v-lt2048.true); packs = c.pack-then-v-lt2048.ensures h }

pub returns : goal.returns
returns c h =
    record { char = _; is = sym (encoded3 c.args.v 5 c.if-v-lt128.false c.if-v-lt2048.false c.requires); packs = c.pack-2.ensures h }

pub overflow_add-v-2 : goal.overflow_add-v-2
overflow_add-v-2 c = omega (arith, c.requires)

pub overflow_cast-v-2 : goal.overflow_cast-v-2
overflow_cast-v-2 c = omega (arith, c.requires)
