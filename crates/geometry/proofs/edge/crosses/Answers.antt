-- By the order of the three parallels, and then by the side.
use mathlib.Core.Path.{ap, ◌∙◌}
use native.Mathlib.Omega.{arith}
use lib.IntN.{ℤ, pos}
use lib.Signed.{lt_z}
use borrow.Author.Tests.{lt-leb, le-ltb}
use Rattle.geometry.proofs.Ways.{northward, southward, north-of, south_of}
use Rattle.geometry.proofs.edge.crosses.Goals as goal

pub returns-then-q-b : goal.returns-then-q-b
returns-then-q-b c =
    c.above_zero.ensures ∙ ap (lt_z (pos 0)) c.side-s.ensures
    ∙ northward c.args.a c.args.b c.args.q (omega arith) (omega arith)

pub returns-else-q-b : goal.returns-else-q-b
returns-else-q-b c =
    le-ltb _ _ c.if-q-b.false ∙ south_of c.args.a c.args.b c.args.q (omega arith) (omega arith)

pub returns-then-b-q : goal.returns-then-b-q
returns-then-b-q c =
    c.below_zero.ensures ∙ ap (λ (z : ℤ). lt_z z (pos 0)) c.side-s.ensures
    ∙ southward c.args.a c.args.b c.args.q (omega arith) (omega arith)

pub returns-else-b-q : goal.returns-else-b-q
returns-else-b-q c =
    lt-leb _ _ c.if-b-q.false ∙ north-of c.args.a c.args.b c.args.q (omega arith) (omega arith)
