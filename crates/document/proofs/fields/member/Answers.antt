-- The value of what is found under the name; nothing of what is no object.
use mathlib.Core.Path.{◌∙◌}
use Rattle.document.proofs.ByKind.{found-standing, member-none, member-found, kind_tag, is_other, is_same}
use Rattle.document.proofs.fields.member.Goals as goal

pub returns-then-ne : goal.returns-then-ne
returns-then-ne c x w =
    let p = c.args.p.now in c.no_bytes.ensures ∙ member-none p _ _ (kind_tag p c.value_kind.ensures) (is_other c.ne.ensures c.if-ne.true)

pub returns : goal.returns
returns c x w =
    let p = c.args.p.now in let e = c.find.ensures x w in
    c.value_at.ensures.0 (found-standing _ _ _ e) ∙ member-found p _ _ (kind_tag p c.value_kind.ensures) (is_same c.ne.ensures c.if-ne.false) _ e
