-- A rule that is for the type gives what its members say, and another nothing.
use mathlib.Core.Path.{sym, ap, ◌∙◌}
use Rattle.zone.specs.inner.Values.{or_given}
use Rattle.zone.proofs.Fields.{rule-given}
use Rattle.zone.proofs.Combining.{rule-joined, rule_passed}
use Rattle.zone.proofs.rules.with_rule.Goals as goal

pub returns-then-not-applies : goal.returns-then-not-applies
returns-then-not-applies c =
    rule_passed c.args.type_id.now c.args.start _ (sym c.applies.ensures ∙ c.if-not-applies.true)

pub returns : goal.returns
returns c =
    c.or.ensures
    ∙ ap (or_given c.args.start) (c.given_in.ensures ∙ rule-given c.requires)
    ∙ rule-joined c.args.type_id.now c.args.start _ (sym c.applies.ensures ∙ c.if-not-applies.false)
