-- What is cut up to the end is all from the record's start on.
use mathlib.Core.Path.{ap, ◌∙◌}
use lib.ListN.{drop}
use Rattle.sorting.proofs.Rests.{to_end}
use Rattle.ids.proofs.columns.record_from.Goals as goal

pub returns : goal.returns
returns c =
    let p = c.args.p.now in let at = c.start_at.result in
    c.cut.ensures ∙ to_end p at ∙ ap (λ k. drop k p) c.start_at.ensures
