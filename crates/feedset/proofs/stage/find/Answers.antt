-- `find` goes by the number: files that references name are found already, records of file 6 have no ids, file 7 has no records, and files 3 and 4 are left.
use borrow.Author.Rules.{rules}
use mathlib.Core.Path.{◌≡◌}
use Prim.Native.Nat.{ℕ, ◌≤◌, ◌<◌}
use native.Mathlib.Omega.{arith}
use Rattle.schema.proofs.Recorded.{ids-recorded}
use Rattle.fault.specs.Outcome.{file_count}
use Rattle.cross.specs.inner.Judged.{Referring}
use Rattle.cross.proofs.Tabled.{has-records, referring_ids}
use Rattle.feedset.proofs.Staging.{bare-found, found_at}
use Rattle.feedset.proofs.stage.find.Goals as goal

record Left (file : ℕ) : Type 0 where
  referring : Referring file
  later : 2 < file

-- neither named, nor without ids, nor without records
left : {file : ℕ} → 1 ≤ file → file ≤ file_count → (file ≡ 1 → ⊥) → (file ≡ 2 → ⊥) → (file ≡ 5 → ⊥) → (file ≡ 6 → ⊥) → (file ≡ 7 → ⊥) → (file ≡ 8 → ⊥) → Left file
left h i a b c d e f = record { referring = record { least = h; most = omega arith }; later = omega arith }

pub judge_last-requires : goal.judge_last-requires
judge_last-requires c =
    let x = c.requires.2 in
    (x.recorded 6 (omega arith) (omega arith) (has-records c.args.table 6 (omega arith) (omega arith)), x.known 6 (omega arith))

pub judge_unnamed-requires : goal.judge_unnamed-requires
judge_unnamed-requires c =
    let x = c.requires in let file = c.args.file in
    let l = left {file = file} x.0 x.1 (search rules) (search rules) (search rules) (search rules) (search rules) (search rules) in
    let ids = referring_ids c.args.table l.referring in
    (l.referring, x.2.recorded file x.0 x.1 (ids-recorded _ ids), x.2.single file x.0 x.1 ids, x.2.known file l.later)

pub returns-in-1 : goal.returns-in-1
returns-in-1 c = found_at c.in-1.is c.requires.2.types

pub returns-in-2 : goal.returns-in-2
returns-in-2 c = found_at c.in-2.is c.requires.2.stations

pub returns-in-5 : goal.returns-in-5
returns-in-5 c = found_at c.in-5.is c.requires.2.plans

pub returns-in-6 : goal.returns-in-6
returns-in-6 c = found_at c.in-6.is c.judge_last.ensures

pub returns-in-7 : goal.returns-in-7
returns-in-7 c = found_at c.in-7.is (bare-found _ _)

pub returns-in-8 : goal.returns-in-8
returns-in-8 c = found_at c.in-8.is c.requires.2.regions

pub returns-in_default : goal.returns-in_default
returns-in_default c = c.judge_unnamed.ensures
