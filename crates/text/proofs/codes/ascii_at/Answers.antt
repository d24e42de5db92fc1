-- A byte that stands for itself is a character, and an escape may be one.
use mathlib.Core.Path.{sym, ◌∙◌}
use native.Mathlib.Omega.{arith}
use Rattle.text.proofs.Packed.{plain-coded}
use Rattle.text.proofs.codes.ascii_at.Goals as goal

pub escape_code-requires : goal.escape_code-requires
escape_code-requires c = (c.if-s-at.false, c.if-s-at-eq92.true)

pub returns-then-is_plain : goal.returns-then-is_plain
returns-then-is_plain c h =
    let q = c.args in
    plain-coded q.s.now q.at c.if-s-at.false (sym c.is_plain.ensures ∙ c.if-is_plain.true) (c.pack.ensures h)

pub returns-then-s-at : goal.returns-then-s-at
returns-then-s-at c h = absurd (omega arith)

pub returns-then-s-at-eq92 : goal.returns-then-s-at-eq92
returns-then-s-at-eq92 c = c.escape_code.ensures

pub returns : goal.returns
returns c h = absurd (omega arith)
