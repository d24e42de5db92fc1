-- A place past the end is brought to the end, where nothing is left either.
use mathlib.Core.Path.{ap, ◌∙◌}
use lib.ListN.{drop}
use Rattle.sorting.proofs.Rests.{to_end, until_end}
use Rattle.sorting.proofs.id.id_from.Goals as goal

pub returns : goal.returns
returns c =
    let s = c.args.p.now in
    to_end s c.min.result ∙ until_end s c.place_at-at.result c.min.ensures ∙ ap (λ x. drop x s) c.place_at-at.ensures
