-- `parts` reads the verdict's word back, and a verdict's word says the verdict.
use Rattle.std.proofs.Common.{ap, ◌∙◌, arith}
use Rattle.schema.specs.Tables.{table_at}
use Rattle.schema.proofs.SheetShapes.{first-table}
use Rattle.verdict.specs.Verdict.{said, verdict_of}
use Rattle.folder.proofs.Said.{parts_said, same_set}
use Rattle.folder.proofs.set.Set.parts.Goals as goal

pub returns : goal.returns
returns c =
    rw (← first-table)
    (c.read_parts.ensures
    ∙ ap (λ a. a.parts) c.read.ensures
    ∙ parts_said 0 _ _ _ (omega arith) (omega arith) c.verdict.ensures.buffer_after
    ∙ ap
    (λ s. said (verdict_of (table_at 0) s))
    (same_set c.file.ensures c.file-2.ensures c.file-3.ensures c.file-4.ensures c.file-5.ensures c.file-6.ensures
    c.file-7.ensures c.file-8.ensures))
