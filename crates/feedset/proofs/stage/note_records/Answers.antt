-- `note_records` notes the array by the file's sheet.
use mathlib.Core.Path.{refl, sym, ap, subst, ◌∙◌}
use Prim.Native.Nat.{ℕ}
use Rattle.schema.specs.Tables.{sheet_of}
use Rattle.ids.specs.inner.Ids.{AllIdsOnce, record_bytes, first_repeat}
use Rattle.ids.specs.inner.Notes.{Indexed}
use Rattle.feedset.proofs.Staging.{repeat_is}
use Rattle.feedset.proofs.stage.note_records.Goals as goal

pub note-requires : goal.note-requires
note-requires c =
    let x = c.requires.1 in let r = x.recorded in
    (r.short, r.few, r.along, subst (λ (n : ℕ). AllIdsOnce n c.args.p.now) (sym c.sheet_of.ensures) x.single, x.room)

pub returns : goal.returns
returns c =
    let a = c.args in let p = a.p.now in let e = c.sheet_of.ensures in (
      c.note.ensures.0 ∙ ap (λ (n : ℕ). first_repeat n (record_bytes p)) e ∙ repeat_is (sheet_of a.table a.file) c.requires.0 p,
      refl,
      subst (λ (n : ℕ). Indexed n p c.note.new.notes) e c.note.ensures.1,
    )
