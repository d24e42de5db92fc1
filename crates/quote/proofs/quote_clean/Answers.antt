-- `quote_clean` looks the plan up in the notes of the file's records: a record that has the id is the plan, and its bytes end where its value does.
use mathlib.Core.Path.{◌≡◌, sym, ap, subst, ◌∙◌}
use Prim.Native.Nat.{ℕ}
use native.Mathlib.Omega.{arith}
use Rattle.walk.specs.Part.{part_tree}
use Rattle.walk.proofs.Parts.{item_of}
use Rattle.schema.specs.Table23.{plan}
use Rattle.schema.specs.Pick.{pick}
use Rattle.ids.specs.inner.Known.{RecordOf}
use Rattle.clean.specs.inner.Noted.{RecordsNoted}
use Rattle.quote.specs.inner.Clear.{ClearPlan}
use Rattle.quote.specs.Quote.{plan_quote}
use Rattle.quote.proofs.Files.{item-ends, quote-absent, identifies, plans-sound, item-clear, quote-none, quote-some}
use Rattle.quote.proofs.quote_clean.Goals as goal
use Rattle.std.specs.Prelude.{Some}

pub returns-then-s-eq0 : goal.returns-then-s-eq0
returns-then-s-eq0 c = let a = c.args in quote-absent a.table a.s.now a.id.now a.seconds a.metres c.if-s-eq0.true

pub find_record-requires : goal.find_record-requires
find_record-requires c =
    let a = c.args in let ids = identifies a.table c.sheet_of-sheet.ensures in
    record {
      ids = ids;
      noted =
          subst (λ (n : ℕ). RecordsNoted n a.s.now a.notes.now) (sym c.sheet_of-sheet.ensures) c.requires.1
          (omega (arith, c.if-s-eq0.false)) ids _ c.records_from-records.ensures;
    }

-- a file that is there and clean is sound
pub returns-in_default : goal.returns-in_default
returns-in_default c =
    let a = c.args in let sound = plans-sound a.table c.sheet_of-sheet.ensures a.s.now c.if-s-eq0.false c.requires.0 in
    quote-none a.table c.sheet_of-sheet.ensures sound c.records_from-records.ensures a.id.now a.seconds a.metres
    (subst (RecordOf c.sheet_of-sheet.result _ a.id.now) c.in_default.is c.find_record.ensures)

-- the record that was found, and its bytes
pub quote_plan-requires : goal.quote_plan-requires
quote_plan-requires c =
    let a = c.args in let sound = plans-sound a.table c.sheet_of-sheet.ensures a.s.now c.if-s-eq0.false c.requires.0 in
    let m = subst (RecordOf c.sheet_of-sheet.result c.records_from-records.result.now a.id.now) c.in-Some.is c.find_record.ensures in
    let bytes : c.cut.result.now ≡ item_of c.records_from-records.result.now m.0 = c.cut.ensures ∙ item-ends _ m.0 m.1 m.2 c.skip_value-end.ensures in
    (c.requires.2, c.requires.3, subst ClearPlan (sym bytes) (item-clear a.table c.sheet_of-sheet.ensures sound c.records_from-records.ensures m.0 m.1))

pub returns : goal.returns
returns c =
    let a = c.args in let sound = plans-sound a.table c.sheet_of-sheet.ensures a.s.now c.if-s-eq0.false c.requires.0 in
    let m = subst (RecordOf c.sheet_of-sheet.result c.records_from-records.result.now a.id.now) c.in-Some.is c.find_record.ensures in
    let bytes : c.cut.result.now ≡ item_of c.records_from-records.result.now m.0 = c.cut.ensures ∙ item-ends _ m.0 m.1 m.2 c.skip_value-end.ensures in
    c.quote_plan.ensures ∙ ap (λ p. plan_quote a.seconds a.metres (Some (pick plan (part_tree p)))) bytes
    ∙ quote-some a.table c.sheet_of-sheet.ensures sound c.records_from-records.ensures a.id.now m.0 m.1 m.3 a.seconds a.metres
