-- `judge_early` lends the notes of the one file that the records may name.
use mathlib.Core.Path.{refl, sym, subst}
use native.Mathlib.Omega.{arith}
use Rattle.schema.specs.Tables.{sheet_of}
use Rattle.ids.specs.inner.Ids.{AllIdsOnce}
use Rattle.cross.specs.inner.Recorded.{Recorded}
use Rattle.cross.proofs.Numbers.{searchable_by}
use Rattle.feedset.proofs.Staging.{found_in}
use Rattle.feedset.proofs.stage.judge_early.Goals as goal

pub file_in-requires : goal.file_in-requires
file_in-requires c = let h = c.requires.0 in let a = h.least in let b = h.most in (omega arith, omega arith)

pub judge_records-requires : goal.judge_records-requires
judge_records-requires c =
    let x = c.requires in let e = sym c.file_in.ensures in (
      x.0,
      record { recorded = subst Recorded e x.1.recorded; single = subst (AllIdsOnce (sheet_of c.args.table c.args.file)) e x.1.single; room = x.1.room },
      x.2,
    )

pub returns : goal.returns
returns c =
    let e = c.file_in.ensures in let j = c.judge_records.ensures in (found_in e j.0, searchable_by (sym e) refl j.1)
