-- `judge_alone` asks a file that is there by the stage.
use mathlib.Core.Path.{sym, ap, ◌∙◌}
use Rattle.schema.specs.Tables.{table_at}
use Rattle.verdict.specs.declared.stages.Stage.{Stage}
use Rattle.verdict.specs.inner.Stages.{outcome_in}
use Rattle.verdict.proofs.Staging.{alone-absent, alone-A, alone-B}
use Rattle.verdict.proofs.stages.judge_alone.Goals as goal

pub returns-then-s-eq0 : goal.returns-then-s-eq0
returns-then-s-eq0 c = let a = c.args in alone-absent (table_at a.table) a.stage a.file a.s.now c.if-s-eq0.true

pub check_fields-requires : goal.check_fields-requires
check_fields-requires c = c.requires c.in-B.is c.if-s-eq0.false

pub returns-in-A : goal.returns-in-A
returns-in-A c =
    let a = c.args in
    c.check_text.ensures ∙ alone-A (table_at a.table) a.file a.s.now c.if-s-eq0.false ∙ ap (λ (x : Stage). outcome_in (table_at a.table) x a.file a.s.now) (sym c.in-A.is)

pub returns-in-B : goal.returns-in-B
returns-in-B c =
    let a = c.args in let e = c.in-B.is in
    c.check_fields.ensures ∙ alone-B a.table a.file a.s.now c.sheet_of.ensures (c.requires e c.if-s-eq0.false) ∙ ap (λ (x : Stage). outcome_in (table_at a.table) x a.file a.s.now) (sym e)
