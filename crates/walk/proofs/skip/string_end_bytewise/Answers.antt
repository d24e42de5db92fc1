-- `string_end_bytewise` ends past the closing mark: the loop's invariant is that behind it the text is the same from each of the string's bytes on.
use Prim.Native.Nat.{◌+◌}
use borrow.Author.Rules.{rules}
use borrow.Author.Tests.{ne_eqb}
use mathlib.Core.Bool.{false}
use mathlib.Core.Path.{sym, ◌∙◌}
use native.Mathlib.Omega.{arith}
use Rattle.lexeme.proofs.Rests.{place_at}
use Rattle.walk.proofs.Quotes.{quoted-past, pass_itself}
use Rattle.walk.proofs.Ends.{string-closes}
use Rattle.walk.proofs.skip.string_end_bytewise.Goals as goal

pub returns-in-34 : goal.returns-in-34
returns-in-34 c =
    let s = c.args.s.now in let i = c.loop-i.i in
    rw (sym c.loop-i.invariant ∙ string-closes s i (omega arith) c.in-34.is) (place_at s (i + 1) (omega arith))

pub loop-i-preserved : goal.loop-i-preserved
loop-i-preserved c =
    let s = c.args.s.now in
    sym (pass_itself s c.loop-i.i (ne_eqb _ _ (search rules), ne_eqb _ _ (search rules))) ∙ c.loop-i.invariant

pub returns : goal.returns
returns c =
    let s = c.args.s.now in
    rw (sym c.loop-i.invariant ∙ quoted-past false s c.loop-i.i (omega arith)) (omega arith)
