-- An escape may be a character, and so may what begins past ASCII.
use mathlib.Core.Path.{refl}
use native.Mathlib.Omega.{arith}
use Rattle.text.proofs.codes.code_at.Goals as goal

pub returns-then-s-at : goal.returns-then-s-at
returns-then-s-at c h = absurd (omega arith)

pub unicode_code-requires : goal.unicode_code-requires
unicode_code-requires c = (c.if-s-at.false, c.if-s-at-eq92.true)

pub returns-then-s-at-eq92 : goal.returns-then-s-at-eq92
returns-then-s-at-eq92 c = c.unicode_code.ensures

pub wide_code-requires : goal.wide_code-requires
wide_code-requires c = (c.if-s-at.false, refl)

pub returns : goal.returns
returns c = c.wide_code.ensures
