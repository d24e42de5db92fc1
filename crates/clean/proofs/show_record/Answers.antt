-- `show_record` asks whether the file is clean, and then where the record stands.
use mathlib.Core.Path.{◌≡◌, refl, sym, ap, ◌∙◌}
use native.Mathlib.Omega.{arith}
use Rattle.schema.specs.Shape.{Shape, file_shape}
use Rattle.schema.specs.Tables.{table_at, sheet_shape}
use Rattle.schema.proofs.SheetShapes.{sheet_shape_lem}
use Rattle.clean.specs.Clean.{clean_in}
use Rattle.word.specs.declared.refusal.Refusal.TheVariants.{NoRecord}
use Rattle.document.specs.declared.Span.{Span}
use Rattle.clean.specs.Show.{answer, of_span, shown_by}
use Rattle.clean.proofs.Judged.{shown-none, shown_of_lem}
use Rattle.clean.proofs.Shows.{listed}
use Rattle.clean.proofs.show_record.Goals as goal
use Rattle.fault.specs.Outcome.{unbroken}
use Rattle.std.specs.Prelude.{Option, None, Some, Err}
use Rattle.std.specs.Option.{ok_or}

pub returns-then-file-eq0 : goal.returns-then-file-eq0
returns-then-file-eq0 c = let a = c.args in shown-none (file_shape (table_at a.table) a.file) a.file a.«record» a.s.now (λ h i. omega arith)

-- the sheet has the shape of the file in the table
pub returns-in-Err : goal.returns-in-Err
returns-in-Err c =
    let a = c.args in
    shown_of_lem (file_shape (table_at a.table) a.file) a.file a.«record» a.s.now (omega arith) (omega arith) (Err _)
    (sym c.in-Err.is ∙ c.check_clean.ensures ∙ ap (λ (σ : Shape). clean_in σ a.file a.s.now) (ap sheet_shape c.sheet_of-sheet.ensures ∙ sheet_shape_lem a.table a.file))

-- of a clean file, by its record's span
spanned : (o : Option Span) → answer (ok_or o NoRecord) ≡ of_span o
spanned None = refl
spanned (Some p) = refl

pub returns-in-Ok : goal.returns-in-Ok
returns-in-Ok c =
    let a = c.args in let e = sym c.in-Ok.is ∙ c.check_clean.ensures in
    ap answer c.ok_or.ensures.value ∙ spanned c.record_span.result ∙ ap of_span (c.record_span.ensures (listed c.sheet_of-sheet.result a.file a.s.now (sym e)))
    ∙ shown_of_lem (sheet_shape c.sheet_of-sheet.result) a.file a.«record» a.s.now (omega arith) (omega arith) unbroken e
    ∙ ap (λ (σ : Shape). shown_by σ a.file a.«record» a.s.now) (ap sheet_shape c.sheet_of-sheet.ensures ∙ sheet_shape_lem a.table a.file)
