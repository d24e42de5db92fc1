-- `quote_trip` asks for the ride's length first, then whether the file is clean; only of a clean one is there more to tell, and its records are noted.
use mathlib.Core.Path.{sym, ap, ◌∙◌}
use Rattle.schema.specs.Tables.{table_at}
use Rattle.ids.proofs.Entering.{fresh}
use Rattle.notation.proofs.Tried.{handed_on}
use Rattle.quote.specs.Quote.{answer}
use Rattle.quote.proofs.Files.{short-both, clean-by, quote-long, quote-of}
use Rattle.quote.proofs.quote_trip.Goals as goal
use Rattle.fault.specs.Outcome.{unbroken}
use Rattle.std.specs.Prelude.{Err}

pub returns-then-not-is_short : goal.returns-then-not-is_short
returns-then-not-is_short c =
    let a = c.args in
    quote-long (table_at a.table) a.s.now a.id.now a.seconds a.metres (sym c.is_short.ensures ∙ c.if-not-is_short.true)

pub check_noted-requires : goal.check_noted-requires
check_noted-requires c = fresh

-- past the test of its length the ride is short, and what is found of the file is found of it by the table
pub returns-in_err-check_noted : goal.returns-in_err-check_noted
returns-in_err-check_noted c =
    let a = c.args in
    ap answer (handed_on _ _ c.from_residual.ensures.1)
    ∙ quote-of (table_at a.table) a.s.now a.id.now a.seconds a.metres (sym c.is_short.ensures ∙ c.if-not-is_short.false) (Err _)
    (sym c.in_err-check_noted.was ∙ c.check_noted.ensures.0 ∙ clean-by a.table c.sheet_of.ensures a.s.now)

pub quote_clean-requires : goal.quote_clean-requires
quote_clean-requires c =
    let a = c.args in
    let b = short-both a.seconds a.metres (sym c.is_short.ensures ∙ c.if-not-is_short.false) in let w = c.check_noted.ensures.1 c.in_ok-check_noted.was in
    (sym (c.check_noted.ensures.0 ∙ clean-by a.table c.sheet_of.ensures a.s.now) ∙ c.in_ok-check_noted.was, rw c.sheet_of.ensures at w, b.0, b.1)

pub returns : goal.returns
returns c =
    let a = c.args in
    c.quote_clean.ensures
    ∙ quote-of (table_at a.table) a.s.now a.id.now a.seconds a.metres (sym c.is_short.ensures ∙ c.if-not-is_short.false) unbroken
    (sym c.in_ok-check_noted.was ∙ c.check_noted.ensures.0 ∙ clean-by a.table c.sheet_of.ensures a.s.now)
