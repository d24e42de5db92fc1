-- `put_number` writes the fewest digits that hold the number, which are its numeral.
use Rattle.std.proofs.Common.{List, ℕ, ◌++◌, take, ap, ◌∙◌}
use Rattle.folder.proofs.Numerals.{numeral_fewest}
use Rattle.folder.proofs.line.Line.put_number.Goals as goal

pub returns-clause-text : goal.returns-clause-text
returns-clause-text c =
    let d = c.decimal-k in
    let line = c.args.self.now in
    c.put.ensures.text ∙ ap (λ (s : List ℕ). take line.len line.text ++ s) (d.ensures.digits ∙ numeral_fewest c.args.n d.result d.ensures.len)
