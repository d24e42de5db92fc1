-- `before_string_mark` is right for every eight bytes (`Marks`).
use mathlib.Core.Path.{◌∙◌}
use native.Mathlib.Omega.{arith}
use Rattle.walk.proofs.Marks.{string-first}
use Rattle.walk.proofs.mark.before_string_mark.Goals as goal

pub returns : goal.returns
returns c =
    let a = c.args in
    c.first_clear.ensures
    ∙ string-first a.s.now a.at (omega arith) (λ i. omega (arith, c.type_inv.s i)) _ _ _
    c.word_at-w.ensures c.unlike-quotes.ensures c.unlike-backslashes.ensures
