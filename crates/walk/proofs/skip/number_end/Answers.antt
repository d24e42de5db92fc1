-- `number_end` ends where the reader of numbers does, and stays where that finds none.
use mathlib.Core.Path.{sym, ◌∙◌}
use Rattle.walk.proofs.Ends.{number-ends, number_stays}
use Rattle.walk.proofs.skip.number_end.Goals as goal

pub returns-in-Ok : goal.returns-in-Ok
returns-in-Ok c =
    let a = c.args in
    number-ends a.s.now a.at _ (sym c.in-Ok.is ∙ c.read_number.ensures)

pub returns-in-Err : goal.returns-in-Err
returns-in-Err c =
    let a = c.args in
    c.place.ensures ∙ number_stays a.s.now a.at _ (sym c.in-Err.is ∙ c.read_number.ensures)
