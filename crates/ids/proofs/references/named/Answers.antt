-- A reference that is a text is searched for; nothing else names a record.
use mathlib.Core.Path.{sym, ap, ◌∙◌}
use borrow.Author.Tests.{ne_eqb}
use Rattle.text.specs.Text.{text_of}
use Rattle.schema.specs.Records.{record_shape}
use Rattle.document.proofs.ByKind.{text-none, text-some}
use Rattle.document.specs.inner.Items.{picked_items}
use Rattle.ids.specs.inner.Ids.{id_field}
use Rattle.ids.specs.References.{any_with, named}
use Rattle.ids.specs.inner.Known.{test_of}
use Rattle.ids.proofs.references.named.Goals as goal

pub returns-else-code_of-eq-STRING : goal.returns-else-code_of-eq-STRING
returns-else-code_of-eq-STRING c =
    let a = c.args in let l = picked_items (record_shape a.sheet) a.p.now in
    ne_eqb _ _ c.if-code_of-eq-STRING.false ∙ sym (ap (named (test_of a.sheet) (id_field a.sheet) l) (text-none a.value.now _ c.code_of.ensures c.if-code_of-eq-STRING.false))

pub returns-then-code_of-eq-STRING : goal.returns-then-code_of-eq-STRING
returns-then-code_of-eq-STRING c =
    let a = c.args in
    let l = picked_items (record_shape a.sheet) a.p.now in
    c.meets.ensures
    ∙ ap (λ q. any_with (test_of a.sheet) (id_field a.sheet) l (text_of q)) c.unquoted.ensures
    ∙ sym (ap (named (test_of a.sheet) (id_field a.sheet) l) (text-some a.value.now _ c.code_of.ensures c.if-code_of-eq-STRING.true))

pub meets-requires : goal.meets-requires
meets-requires c = c.requires
