-- A reference that is a text dangles where the search meets no record; nothing else refers.
use mathlib.Core.Bool.{Bool, not}
use mathlib.Core.Path.{sym, ap, ◌∙◌}
use Rattle.word.specs.Kinds.{dangling}
use Rattle.text.specs.Text.{text_of}
use Rattle.schema.specs.Records.{record_shape}
use Rattle.document.proofs.ByKind.{text-none, text-some}
use Rattle.document.specs.inner.Items.{picked_items}
use Rattle.ids.specs.inner.Ids.{id_field}
use Rattle.ids.specs.References.{kind_if, any, any_with, refers}
use Rattle.ids.proofs.references.refers.Goals.{else-code_of-eq-STRING-via-then-code_of-eq-STRING+else-not-meets, else-code_of-eq-STRING-via-else-code_of-eq-STRING}
use Rattle.ids.proofs.references.refers.Goals as goal

-- where the record was searched for
pub returns-then-not-meets : goal.returns-then-not-meets
returns-then-not-meets c =
    let a = c.args in let l = picked_items (record_shape a.sheet) a.p.now in
    sym (ap (λ (t : Bool). kind_if (not t) dangling) c.if-not-meets.true)
    ∙ ap (λ (t : Bool). kind_if (not t) dangling) (c.meets.ensures ∙ ap (λ q. any_with any (id_field a.sheet) l (text_of q)) c.unquoted.ensures)
    ∙ sym (ap (λ o. refers o (id_field a.sheet) l) (text-some a.value.now _ c.code_of.ensures c.if-code_of-eq-STRING.true))

pub returns-else-code_of-eq-STRING : goal.returns-else-code_of-eq-STRING
returns-else-code_of-eq-STRING c =
    let a = c.args in let l = picked_items (record_shape a.sheet) a.p.now in
    elim c.else-code_of-eq-STRING.branch [
      | else-code_of-eq-STRING-via-then-code_of-eq-STRING+else-not-meets w ↦
          sym (ap (λ (t : Bool). kind_if (not t) dangling) w.if-not-meets.false)
          ∙ ap (λ (t : Bool). kind_if (not t) dangling) (w.meets.ensures ∙ ap (λ q. any_with any (id_field a.sheet) l (text_of q)) w.unquoted.ensures)
          ∙ sym (ap (λ o. refers o (id_field a.sheet) l) (text-some a.value.now _ c.code_of.ensures w.if-code_of-eq-STRING.true))
      | else-code_of-eq-STRING-via-else-code_of-eq-STRING w ↦
          sym (ap (λ o. refers o (id_field a.sheet) l) (text-none a.value.now _ c.code_of.ensures w.if-code_of-eq-STRING.false))
    ]

pub meets-requires : goal.meets-requires
meets-requires c = c.requires
