-- `refers_in` asks the file's sheet, whose ids have the file's field.
use mathlib.Core.Path.{sym, ap, subst, ◌∙◌}
use Prim.Native.Nat.{ℕ}
use Rattle.schema.specs.Tables.{sheet_of}
use Rattle.schema.specs.Records.{record_shape}
use Rattle.document.specs.inner.Items.{picked_items}
use Rattle.document.specs.inner.Values.{text_by}
use Rattle.ids.specs.inner.Ids.{id_field}
use Rattle.ids.specs.inner.Known.{Searchable}
use Rattle.ids.specs.References.{refers as refers_to}
use Rattle.cross.proofs.Tabled.{id_number_lem}
use Rattle.cross.proofs.references.refers_in.Goals as goal

pub refers-requires : goal.refers-requires
refers-requires c =
    subst (λ (n : ℕ). Searchable n c.args.p.now c.args.notes.now) (sym c.sheet_of.ensures) c.requires

pub returns : goal.returns
returns c =
    let a = c.args in
    c.refers.ensures
    ∙ ap (λ (n : ℕ). refers_to (text_by a.value.now) (id_field n) (picked_items (record_shape n) a.p.now)) c.sheet_of.ensures
    ∙ ap (λ (f : ℕ). refers_to (text_by a.value.now) f (picked_items (record_shape (sheet_of a.table a.file)) a.p.now)) (id_number_lem a.table a.file c.requires.ids)
