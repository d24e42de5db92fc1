-- `closed_end` passes blanks and a byte more.
use mathlib.Core.Path.{ap, ◌∙◌}
use Prim.Native.Nat.{◌-◌}
use lib.ListN.{length, drop}
use Rattle.lexeme.proofs.Spans.{skipped}
use Rattle.walk.proofs.closed_end.Goals as goal

pub returns : goal.returns
returns c =
    let a = c.args in let p = a.p.now in
    c.place.ensures
    ∙ ap (λ l. length p - length l) (c.ahead.ensures ∙ ap (drop 1) (skipped p a.at c.skip_blanks-i.result c.skip_blanks-i.ensures).rest)
