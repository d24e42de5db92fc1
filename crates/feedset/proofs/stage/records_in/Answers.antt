-- The rest of a file is that of its bytes, by its sheet.
use mathlib.Core.List.{List, map}
use mathlib.Core.Path.{subst}
use Prim.Native.Nat.{ℕ}
use Rattle.document.specs.inner.Spans.{RecordsFrom}
use Rattle.cross.specs.Stage.{bytes_of}
use Rattle.feedset.proofs.stage.records_in.Goals as goal

pub returns : goal.returns
returns c =
    let a = c.args in
    subst (λ (n : ℕ). RecordsFrom n (bytes_of (map (λ p. p.now) a.files) a.file) c.records_from.result.now) c.sheet_of.ensures
    (subst (λ (s : List ℕ). RecordsFrom c.sheet_of.result s c.records_from.result.now) c.file_in.ensures c.records_from.ensures)
