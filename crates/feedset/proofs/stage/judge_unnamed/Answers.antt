-- `judge_unnamed` judges the records with notes of its own, which nobody asks.
use mathlib.Core.Path.{sym, subst}
use native.Mathlib.Omega.{arith}
use Rattle.schema.specs.Tables.{sheet_of}
use Rattle.ids.specs.inner.Ids.{AllIdsOnce}
use Rattle.ids.proofs.Entering.{fresh}
use Rattle.cross.specs.inner.Recorded.{Recorded}
use Rattle.feedset.proofs.Staging.{found_in}
use Rattle.feedset.proofs.stage.judge_unnamed.Goals as goal

pub file_in-requires : goal.file_in-requires
file_in-requires c = let h = c.requires.0 in let a = h.least in let b = h.most in (omega arith, omega arith)

pub judge_records-requires : goal.judge_records-requires
judge_records-requires c =
    let x = c.requires in let e = sym c.file_in.ensures in
    (x.0, record { recorded = subst Recorded e x.1; single = subst (AllIdsOnce (sheet_of c.args.table c.args.file)) e x.2; room = fresh }, x.3)

pub returns : goal.returns
returns c = found_in c.file_in.ensures c.judge_records.ensures.0
