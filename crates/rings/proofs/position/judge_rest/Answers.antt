-- No item is left, or one, or more: the three cases of the definition.
use mathlib.Core.Path.{ap, ap₂, ◌∙◌}
use Rattle.walk.specs.inner.Kind.{kind_at}
use Rattle.fault.specs.Fault.{lesser}
use Rattle.rings.specs.inner.Parts.{is_number}
use Rattle.rings.proofs.Positions.{rest-none, rest-one, rest-two}
use Rattle.rings.proofs.position.judge_rest.Goals as goal

pub returns-in_err-third : goal.returns-in_err-third
returns-in_err-third c ms h = c.from_residual.ensures ∙ rest-none _ _ h c.pass_item.ensures c.in_err-third.was

pub returns-in_default : goal.returns-in_default
returns-in_default c ms h =
    c.unless-least.ensures
    ∙ rest-one _ _ h c.pass_item.ensures c.in_ok-third.was _
    (c.is_number.ensures ∙ ap (λ z. is_number (kind_at z)) c.item_bytes.ensures) c.pass_item-2.ensures c.in_default.is

pub returns : goal.returns
returns c ms h =
    c.lesser.ensures ∙ ap₂ lesser c.broken.ensures c.unless-least.ensures
    ∙ rest-two _ _ h c.pass_item.ensures c.in_ok-third.was _
    (c.is_number.ensures ∙ ap (λ z. is_number (kind_at z)) c.item_bytes.ensures) c.pass_item-2.ensures c.in-Some.is
