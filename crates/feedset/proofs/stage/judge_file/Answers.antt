-- `judge_file` tells the least of three judgements.
use mathlib.Core.Path.{◌≡◌, sym, ap, subst, ◌∙◌}
use Prim.Native.Nat.{ℕ}
use Rattle.fault.specs.Fault.{lesser, least as least_of, top, faulty}
use Rattle.fault.specs.Outcome.{outcome_of}
use Rattle.fault.specs.inner.Narrow.{Narrow}
use Rattle.ids.specs.inner.Ids.{id_field}
use Rattle.clean.specs.inner.Blamed.{blamed}
use Rattle.feedset.specs.inner.Staged.{file_least, Found}
use Rattle.feedset.proofs.Staging.{file-is}
use Rattle.word.specs.Kinds.{condition}
use Rattle.schema.specs.Tables.{sheet_of}
use Rattle.ids.specs.References.{kind_if}
use Rattle.cross.specs.Cross.{missing_file}
use Rattle.cross.specs.Stage.{Feeds}
use Rattle.cross.specs.inner.Judged.{files_by}
use Rattle.feedset.specs.declared.records.Findings.{Findings}
use Rattle.feedset.proofs.stage.judge_file.Goals as goal
use Rattle.std.specs.Prelude.{Option}
use Rattle.fault.specs.declared.Fault.{Fault}

-- the least is the file's
least-is : {table file field : ℕ} {rs : Feeds} {found : Findings} {a b rest least : Option Fault} → Found table rs file found
    → ((t : ℕ) → a ≡ least_of (faulty top 0 (kind_if (missing_file (files_by t rs) file) condition)))
    → b ≡ blamed (id_field field) found.repeat → field ≡ sheet_of table file → rest ≡ lesser b found.least → least ≡ lesser a rest
    → least ≡ file_least table rs file
least-is {table} {found = found} {a = a} f e h i j k =
    k ∙ ap (λ (x : Option Fault). lesser a x) j ∙ file-is _ _ _ f (e table) (h ∙ ap (λ (n : ℕ). blamed (id_field n) found.repeat) i)

pub outcome_of-requires : goal.outcome_of-requires
outcome_of-requires c =
    let x = c.requires in
    subst Narrow
    (sym (least-is x.0 c.judge_presence-a.ensures c.blame-b.ensures c.sheet_of.ensures c.lesser.ensures c.lesser-2.ensures)) x.1

pub returns : goal.returns
returns c =
    c.outcome_of.ensures
    ∙ ap (outcome_of c.args.file)
    (least-is c.requires.0 c.judge_presence-a.ensures c.blame-b.ensures c.sheet_of.ensures c.lesser.ensures c.lesser-2.ensures)
