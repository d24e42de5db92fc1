-- `read_literal` compares byte by byte: the loop's invariant is that the rest of the word, read from the place reached, decides.
use mathlib.Core.Path.{◌≡◌, ◌∙◌}
use native.Mathlib.Omega.{arith}
use lib.ListN.{drop}
use Rattle.word.specs.Kinds.{not_json}
use Rattle.lexeme.specs.Read.Read.{bad}
use Rattle.lexeme.specs.Tokens.{literal}
use Rattle.lexeme.proofs.Placed.{ends, faults}
use Rattle.lexeme.proofs.Words.{literal-all, literal-short, literal-wrong, literal-next}
use Rattle.lexeme.proofs.literal.read_literal.Goals as goal
use Rattle.lexeme.proofs.literal.read_literal.Goals.{then-s-i-via-then-s-i, then-s-i-via-else-s-i+then-s-i-2}

pub returns-then-s-i : goal.returns-then-s-i
returns-then-s-i c = let a = c.args in let s = a.s.now in let i = c.loop-c.i in let k = c.loop-c.c-index in
    let wrong : literal (drop k a.word.now) (tt {0}) (drop i s) ≡ bad not_json (drop i s) =
    elim c.then-s-i.branch [
      | then-s-i-via-then-s-i w ↦ literal-short tt s a.word.now i k (omega arith) w.if-s-i.true
      | then-s-i-via-else-s-i+then-s-i-2 w ↦ literal-wrong tt s a.word.now i k (omega arith) w.if-s-i.false w.if-s-i-2.true
    ] in
    faults s (drop i s) _ _ c.place.ensures _ (c.loop-c.invariant ∙ wrong)

pub loop-c-preserved : goal.loop-c-preserved
loop-c-preserved c = let a = c.args in let s = a.s.now in let i = c.loop-c.i in let k = c.loop-c.c-index in
    c.loop-c.invariant ∙ literal-next tt s a.word.now i k (omega arith) (omega arith) c.if-s-i-2.false

pub returns : goal.returns
returns c = let a = c.args in let s = a.s.now in let i = c.loop-c.i in let k = c.loop-c.c-index in
    ends s (drop i s) _ _ c.place-2.ensures _ (c.loop-c.invariant ∙ literal-all tt s a.word.now i k (omega arith))
