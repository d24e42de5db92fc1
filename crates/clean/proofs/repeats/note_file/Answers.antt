-- `note_file` finds the array of records, which a file without a stage B fault has; its records stand there wherever they are looked for again.
use mathlib.Core.List.{List}
use mathlib.Core.Path.{◌≡◌, sym, ap, subst, ◌∙◌}
use Prim.Native.Nat.{ℕ}
use Rattle.ids.specs.inner.Ids.{id_field}
use Rattle.ids.specs.inner.Notes.{Indexed}
use Rattle.clean.specs.inner.Blamed.{blamed}
use Rattle.clean.proofs.Repeated.{Repeats, repeats-are, records-same}
use Rattle.clean.proofs.repeats.note_file.Goals as goal

indexed_as : {sheet : ℕ} {p q notes : List ℕ} → p ≡ q → Indexed sheet p notes → Indexed sheet q notes
indexed_as {sheet} {notes = notes} e = subst (λ (l : List ℕ). Indexed sheet l notes) e

-- by the records that were found
pub note-requires : goal.note-requires
note-requires c =
    let x = c.requires in let a = c.args in
    let w : Repeats a.sheet a.s.now c.records_from.result.now = repeats-are _ _ x.1 x.2 x.0 c.records_from.ensures in
    (w.short, w.few, λ h. w.along, w.singles, x.3)

pub returns : goal.returns
returns c =
    let x = c.requires in let a = c.args in
    let w : Repeats a.sheet a.s.now c.records_from.result.now = repeats-are _ _ x.1 x.2 x.0 c.records_from.ensures in (
      w.names ∙ ap (blamed (id_field a.sheet)) (sym c.note.ensures.0),
      λ h j p f. indexed_as (records-same _ _ x.1 x.2 x.0 c.records_from.ensures f) c.note.ensures.1,
    )
