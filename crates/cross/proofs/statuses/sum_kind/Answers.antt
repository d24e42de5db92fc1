-- `sum_kind` compares the two numbers where field 37 is given.
use mathlib.Core.Path.{sym, ◌∙◌}
use Rattle.word.specs.Kinds.{sum_differs}
use Rattle.document.specs.inner.Values.{there_by}
use Rattle.cross.proofs.Fielded.{sum-none, sum_same, sum-apart}
use Rattle.cross.proofs.statuses.sum_kind.Goals as goal

pub returns-then-available-eq0 : goal.returns-then-available-eq0
returns-then-available-eq0 c = sum-none _ c.if-available-eq0.true _ sum_differs

pub returns-then-sum-integer_in : goal.returns-then-sum-integer_in
returns-then-sum-integer_in c =
    let a = c.args in
    sum_same (there_by a.available.now) _ _ sum_differs (c.if-sum-integer_in.true ∙ c.integer_in.ensures)

pub returns : goal.returns
returns c = sum-apart _ _ _ sum_differs c.if-available-eq0.false (λ e. c.if-sum-integer_in.false (e ∙ sym c.integer_in.ensures))
