-- `judge_records` walks over the records of a file without reading them. The loop's invariant: those passed are entered, and the least so far, with what
-- the records left break, makes the least of all.
use mathlib.Core.List.{map}
use mathlib.Core.Path.{sym, ap, subst, ◌∙◌}
use Prim.Native.Nat.{ℕ, ◌+◌}
use native.Mathlib.Omega.{arith}
use Rattle.walk.specs.Part.{Whole}
use Rattle.walk.proofs.Left.{nearer}
use Rattle.walk.proofs.Parts.{item_of}
use Rattle.schema.specs.Tables.{sheets, sheet_of}
use Rattle.schema.specs.Records.{record_shape}
use Rattle.schema.specs.inner.RecordLines.{record_lines}
use Rattle.schema.specs.Pick.{pick}
use Rattle.fault.specs.Fault.{least as least_of}
use Rattle.document.proofs.Sizes.{part-short}
use Rattle.ids.specs.inner.Notes.{Next, Noted}
use Rattle.ids.proofs.Passing.{noting_start, noting_end, noting_next, noting_more}
use Rattle.cross.specs.Cross.{faults_of}
use Rattle.cross.specs.inner.Judged.{files_by}
use Rattle.cross.proofs.Tabled.{referring_ids}
use Rattle.feedset.proofs.Staging.{repeat_is}
use Rattle.cross.proofs.Walked.{judging-start, judging-end, judging-more}
use Rattle.feedset.proofs.records.judge_records.Goals as goal

pub loop-item-init : goal.loop-item-init
loop-item-init c = let x = c.requires.1 in let a = x.recorded.along in (noting_start x.room a, judging-start _ _ _ a)

pub order_notes-repeat-requires : goal.order_notes-repeat-requires
order_notes-repeat-requires c = let w = c.loop-item.invariant.0.noted in (w.few, w.long)

pub returns : goal.returns
returns c =
    let l = c.loop-item in let a = c.args in let sheet = sheet_of a.table a.file in
    let e = c.order_notes-repeat.ensures sheet l.invariant.0.noted (noting_end l.invariant.0 c.pass_item.ensures c.in_default.is) in
    let ids = referring_ids a.table c.requires.0 in (
      record {
        repeats = e.0 ∙ repeat_is sheet ids a.p.now;
        breaks = judging-end l.invariant.1 c.pass_item.ensures c.in_default.is;
      },
      record { ids = ids; noted = e.1 },
    )

pub note_record-requires : goal.note_record-requires
note_record-requires c =
    let l = c.loop-item in let p = c.args.p.now in let m = c.in-Some.item in let x = c.requires.1 in let r = x.recorded in
    subst (λ (k : ℕ). Next k p l.n m × Noted k p l.n l.noted) (sym c.sheet_of-sheet.ensures)
    (noting_next l.invariant.0 c.pass_item.ensures m c.in-Some.is r.few r.short x.single, l.invariant.0.noted)

pub overflow_add-n : goal.overflow_add-n
overflow_add-n c =
    let x = c.requires.1 in let r = x.recorded in
    omega (arith, (noting_next c.loop-item.invariant.0 c.pass_item.ensures c.in-Some.item c.in-Some.is r.few r.short x.single).room)

pub overflow_cast-n : goal.overflow_cast-n
overflow_cast-n c =
    let x = c.requires.1 in let r = x.recorded in
    omega (arith, (noting_next c.loop-item.invariant.0 c.pass_item.ensures c.in-Some.item c.in-Some.is r.few r.short x.single).room)

-- the record is an object
pub judge_record-broken-requires : goal.judge_record-broken-requires
judge_record-broken-requires c =
    let p = c.args.p.now in let m = c.in-Some.item in let x = c.requires in let r = x.1.recorded in
    let y = noting_next c.loop-item.invariant.0 c.pass_item.ensures m c.in-Some.is r.few r.short x.1.single in let o = y.single.object in (
      x.0,
      c.record_lines-lines.ensures ∙ ap (record_lines sheets) c.sheet_of-sheet.ensures,
      x.2,
      omega (arith, r.short, part-short p m.value m.value_end),
      (o.0, subst (Whole (item_of p m)) o.1 y.whole),
    )

pub loop-item-smaller : goal.loop-item-smaller
loop-item-smaller c = nearer c.pass_item.ensures c.in-Some.is

pub loop-item-preserved : goal.loop-item-preserved
loop-item-preserved c =
    let l = c.loop-item in let a = c.args in let p = a.p.now in let m = c.in-Some.item in let e = c.in-Some.is in let s = c.pass_item.ensures in
    let sheet = sheet_of a.table a.file in let faults = faults_of (files_by a.table (map (λ q. q.now) a.records)) a.file in
    let x = c.requires.1 in let r = x.recorded in let y = noting_next l.invariant.0 s m e r.few r.short x.single in let o = y.single.object in (
      noting_more l.invariant.0 s m e (subst (λ (n : ℕ). Noted n p (l.n + 1) c.note_record.new.notes) c.sheet_of-sheet.ensures c.note_record.ensures),
      judging-more l.invariant.1 s e
          (c.judge_record-broken.ensures o.0 (subst (Whole (item_of p m)) o.1 y.whole)
          ∙ ap (λ x. least_of (faults (l.n + 1) (pick (record_shape sheet) x))) (sym o.1))
          c.lesser-least.ensures,
    )
