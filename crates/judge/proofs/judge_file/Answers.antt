-- `judge_file` judges the object that a file is by the file's lines; where there are none, nothing is judged.
use mathlib.Core.Path.{sym, ap, ◌∙◌}
use Rattle.schema.specs.declared.Range.{Range}
use Rattle.judge.proofs.Listed.{file-unlisted, file-listed}
use Rattle.judge.proofs.judge_file.Goals as goal

pub returns-then-lines-eq0 : goal.returns-then-lines-eq0
returns-then-lines-eq0 c x w =
    file-unlisted c.args.sheet (sym (ap (λ (l : Range). l.count) c.file_lines-lines.ensures) ∙ c.if-lines-eq0.true) x

pub judge_object-requires : goal.judge_object-requires
judge_object-requires c = (c.requires, c.table_bytes-table.ensures)

pub returns : goal.returns
returns c =
    let a = c.args in
    file-listed a.p.now c.judge_object.result.end a.sheet c.file_lines-lines.ensures c.if-lines-eq0.false c.judge_object.ensures.0 c.judge_object.ensures.1
