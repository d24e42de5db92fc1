-- `judge_record` gathers the record at its rows' lines, and goes by the file's number: past files 1 to 3 it is file 4.
use borrow.Author.Rules.{rules}
use mathlib.Core.List.{List}
use mathlib.Core.Path.{◌≡◌, ap, subst, ◌∙◌}
use Prim.Native.Nat.{ℕ}
use Rattle.schema.specs.declared.Range.{Range}
use Rattle.schema.specs.Tables.{sheets, sheet_of}
use Rattle.schema.specs.inner.RecordLines.{record_lines}
use Rattle.slots.specs.inner.Slots.{Gathered}
use Rattle.cross.specs.Cross.{faults_of}
use Rattle.cross.specs.inner.Judged.{Slotted, Known}
use Rattle.cross.proofs.Layouts.{last_referring}
use Rattle.slots.specs.declared.Slots.{Slots}
use Rattle.cross.specs.Stage.{Feeds}
use Rattle.feedset.proofs.records.judge_record.Goals as goal

-- the slots are those of the file that it is, and so is what is known
slotted : (table : ℕ) {file number : ℕ} {lines : Range} {p : List ℕ} {slots : Slots} → Gathered p lines.first lines.count slots
    → lines ≡ record_lines sheets (sheet_of table file) → file ≡ number → Slotted (sheet_of table number) p slots
slotted table {p = p} {slots = slots} g e i =
    subst (λ (l : Range). Gathered p l.first l.count slots) (e ∙ ap (λ (f : ℕ). record_lines sheets (sheet_of table f)) i) g

known_as : {table file number : ℕ} {rs notes : Feeds} → Known table file rs notes → file ≡ number → Known table number rs notes
known_as {table} {rs = rs} {notes = notes} k e = subst (λ (f : ℕ). Known table f rs notes) e k

pub judge_type-requires : goal.judge_type-requires
judge_type-requires c = let x = c.requires in (slotted c.args.table c.gather-slots.ensures x.1 c.in-1.is, known_as x.2 c.in-1.is)

pub judge_station-requires : goal.judge_station-requires
judge_station-requires c = let x = c.requires in (slotted c.args.table c.gather-slots.ensures x.1 c.in-2.is, known_as x.2 c.in-2.is)

pub judge_status-requires : goal.judge_status-requires
judge_status-requires c = let x = c.requires in (slotted c.args.table c.gather-slots.ensures x.1 c.in-3.is, known_as x.2 c.in-3.is, x.3, x.4)

pub judge_bike-requires : goal.judge_bike-requires
judge_bike-requires c =
    let x = c.requires in let e = last_referring x.0 (search rules) (search rules) (search rules) in (slotted c.args.table c.gather-slots.ensures x.1 e, known_as x.2 e)

pub returns-in-1 : goal.returns-in-1
unfolding faults_of
returns-in-1 c = rw c.in-1.is c.judge_type.ensures

pub returns-in-2 : goal.returns-in-2
unfolding faults_of
returns-in-2 c = rw c.in-2.is c.judge_station.ensures

pub returns-in-3 : goal.returns-in-3
unfolding faults_of
returns-in-3 c = rw c.in-3.is c.judge_status.ensures

pub returns-in_default : goal.returns-in_default
unfolding faults_of
returns-in_default c =
    let e : c.args.file ≡ 4 = last_referring c.requires.0 (search rules) (search rules) (search rules) in rw e c.judge_bike.ensures
