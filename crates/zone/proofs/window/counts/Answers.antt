-- Start and end are read each by its name.
use mathlib.Core.Path.{sym, ap, ◌∙◌}
use Rattle.document.specs.inner.Values.{spelled_by}
use Rattle.zone.specs.Zone.{integer, begun, unended}
use Rattle.zone.proofs.Ways.{counts-not, counts-begun}
use Rattle.zone.proofs.window.counts.Goals as goal

pub returns-then-not-begun : goal.returns-then-not-begun
returns-then-not-begun c =
    let a = c.args in
    counts-not a.p.now a.moment
    (sym (c.begun.ensures ∙ ap (λ q. begun (integer (spelled_by q)) a.moment) (c.member.ensures _ c.requires))
    ∙ c.if-not-begun.true)

pub returns : goal.returns
returns c =
    let a = c.args in
    c.unended.ensures ∙ ap (λ q. unended (integer (spelled_by q)) a.moment) (c.member-2.ensures _ c.requires)
    ∙ counts-begun a.p.now a.moment
    (sym (c.begun.ensures ∙ ap (λ q. begun (integer (spelled_by q)) a.moment) (c.member.ensures _ c.requires))
    ∙ c.if-not-begun.false)
