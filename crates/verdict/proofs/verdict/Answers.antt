-- `verdict` answers and writes what the definition says: nothing without room, and otherwise the word of the first broken rule, which fits.
use mathlib.Core.List.{map}
use mathlib.Core.Path.{sym, ap, subst, ◌∙◌}
use native.Mathlib.Omega.{arith}
use Rattle.word.specs.Form.{written_form}
use Rattle.word.specs.Word.{Fits}
use Rattle.schema.specs.Tables.{table_at}
use Rattle.verdict.specs.Verdict.{said}
use Rattle.verdict.proofs.Answers.{answer-room}
use Rattle.verdict.proofs.ReadBack.{verdict-fits}
use Rattle.verdict.proofs.verdict.Goals as goal

pub put-requires : goal.put-requires
put-requires c =
    (subst (Fits written_form) (sym (c.parts_in.ensures ∙ ap said c.judge-c.ensures)) (verdict-fits _ _), omega arith)

pub returns-in-Ok : goal.returns-in-Ok
returns-in-Ok c =
    let a = answer-room (table_at c.args.table) (map (λ p. p.now) c.args.files) c.args.buffer.now (omega arith)
    c.judge-c.ensures c.parts_in.ensures c.put.ensures c.in-Ok.is in
    record { result_value = a.0; buffer_after = a.1 }

pub returns-in-Err : goal.returns-in-Err
returns-in-Err c =
    let a = answer-room (table_at c.args.table) (map (λ p. p.now) c.args.files) c.args.buffer.now (omega arith)
    c.judge-c.ensures c.parts_in.ensures c.put.ensures c.in-Err.is in
    record { result_value = a.0; buffer_after = a.1 }
