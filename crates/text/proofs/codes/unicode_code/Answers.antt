-- Four digits behind \u are the value, and surrogates are left to the reader of any character.
use mathlib.Core.Path.{sym, ◌∙◌}
use Prim.Native.Nat.{◌<◌}
use native.Mathlib.Omega.{arith}
use lib.Dec.{ltb}
use borrow.Author.Tests.{ltb-true, ltb-false}
use Rattle.notation.proofs.Booleans.{by_test}
use Rattle.character.proofs.Digits.{quad_fits}
use Rattle.text.proofs.Packed.{below-coded, above-coded}
use Rattle.text.proofs.codes.unicode_code.Goals as goal

pub unit_code-requires : goal.unit_code-requires
unit_code-requires c = omega (arith, quad_fits _ c.quad.ensures c.in-Ok.is)

pub returns-in_default-v : goal.returns-in_default-v
returns-in_default-v c h =
    let s = c.args.s.now in let at = c.args.at in let v = c.in-Ok.v in
    let q = sym c.quad.ensures ∙ c.in-Ok.is in
    by_test (ltb v 0xd800) (λ t.
    below-coded s at c.requires.0 c.requires.1 c.byte_at.ensures c.if-byte_at-ne117.false c.ahead.ensures q (ltb-true v 0xd800 t) (c.unit_code.ensures h)) (λ t.
    let k = ltb-false v 0xd800 t in
    let above : 0xdfff < v = omega arith in
    above-coded s at c.requires.0 c.requires.1 c.byte_at.ensures c.if-byte_at-ne117.false c.ahead.ensures q above (c.unit_code.ensures h))
