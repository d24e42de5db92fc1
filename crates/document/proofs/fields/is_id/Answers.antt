-- A text is compared; nothing else is the id.
use mathlib.Core.Path.{sym, ap, ◌∙◌}
use borrow.Author.Tests.{eqb-true, eqb-false}
use Rattle.text.specs.Text.{text_of, same}
use Rattle.document.specs.inner.Values.{is_id}
use Rattle.document.proofs.ByKind.{text-none, text-some, kind_tag}
use Rattle.document.proofs.fields.is_id.Goals as goal

pub returns-then-eq : goal.returns-then-eq
returns-then-eq c =
    let a = c.args in
    c.text_is.ensures ∙ ap (λ z. same (text_of z) a.id.now) c.unquoted.ensures
    ∙ sym (ap (is_id a.id.now) (text-some a.q.now _ (kind_tag a.q.now c.value_kind.ensures) (eqb-true _ _ (sym c.eq.ensures ∙ c.if-eq.true))))

pub returns-else-eq : goal.returns-else-eq
returns-else-eq c =
    let a = c.args in
    c.if-eq.false ∙ sym (ap (is_id a.id.now) (text-none a.q.now _ (kind_tag a.q.now c.value_kind.ensures) (eqb-false _ _ (sym c.eq.ensures ∙ c.if-eq.false))))
