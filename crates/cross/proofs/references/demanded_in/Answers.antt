-- `demanded_in` asks the file's sheet, whose ids have the file's field, and whose records are asked about as the file's.
use mathlib.Core.Bool.{Bool}
use mathlib.Core.List.{List}
use mathlib.Core.Path.{sym, ap, ap₂, subst, ◌∙◌}
use Prim.Native.Nat.{ℕ}
use Rattle.schema.specs.Tables.{sheet_of}
use Rattle.schema.specs.Records.{record_shape}
use Rattle.schema.specs.Pick.{Picked}
use Rattle.document.specs.inner.Items.{picked_items}
use Rattle.document.specs.inner.Values.{text_by, there_by}
use Rattle.ids.specs.inner.Ids.{id_field}
use Rattle.ids.specs.inner.Known.{Searchable, test_of}
use Rattle.ids.specs.References.{demanded as demanded_of, named as named_by}
use Rattle.cross.proofs.Tabled.{id_number_lem, asked_is}
use Rattle.cross.proofs.references.demanded_in.Goals as goal

pub demanded_by-requires : goal.demanded_by-requires
demanded_by-requires c =
    subst (λ (n : ℕ). Searchable n c.args.p.now c.args.notes.now) (sym c.sheet_of.ensures) c.requires

-- what is asked for, by test and field of the records of a sheet
abbrev asked : (p reference value : List ℕ) → (Picked → Bool) → (f n : ℕ) → List ℕ
asked p reference value test f n = demanded_of (named_by test f (picked_items (record_shape n) p) (text_by reference)) (there_by value)

pub returns : goal.returns
returns c =
    let a = c.args in let sheet = sheet_of a.table a.file in
    c.demanded_by.ensures
    ∙ ap (λ (n : ℕ). asked a.p.now a.reference.now a.value.now (test_of n) (id_field n) n) c.sheet_of.ensures
    ∙ ap₂ (λ (test : Picked → Bool) (f : ℕ). asked a.p.now a.reference.now a.value.now test f sheet)
    (asked_is a.table a.file c.requires.ids) (id_number_lem a.table a.file c.requires.ids)
