-- `judge_parts` notes the files that references name, each behind the one that its own records name, so that all is known when the others are judged.
use mathlib.Core.Bool.{true}
use mathlib.Core.List.{List, map}
use mathlib.Core.Path.{◌≡◌, refl, sym, subst, ◌∙◌}
use Prim.Native.Nat.{ℕ, ◌≤◌}
use native.Mathlib.Omega.{arith}
use lib.ListN.{length}
use Rattle.schema.specs.Tables.{sheet_of}
use Rattle.schema.specs.Records.{has_ids}
use Rattle.schema.proofs.Recorded.{ids-recorded}
use Rattle.fault.specs.Outcome.{file_count}
use Rattle.ids.specs.inner.Ids.{AllIdsOnce}
use Rattle.ids.specs.inner.Notes.{size, Indexed}
use Rattle.ids.specs.inner.Known.{Searchable}
use Rattle.ids.proofs.Entering.{fresh}
use Rattle.cross.specs.Stage.{bytes_of, Feeds}
use Rattle.cross.specs.inner.Recorded.{Recorded}
use Rattle.feedset.specs.inner.Staged.{Notable, AllRecorded, AllSingle}
use Rattle.cross.proofs.Numbers.{searchable_by}
use Rattle.cross.proofs.Tabled.{has-ids}
use Rattle.cross.proofs.Bare.{records-none}
use Rattle.feedset.proofs.Staging.{found_in}
use Rattle.feedset.proofs.stage.judge_parts.Goals as goal

-- the records of a file with ids can be noted
notable : (table : ℕ) (rs : Feeds) → AllRecorded table rs → AllSingle table rs → (file : ℕ) → 1 ≤ file → file ≤ file_count → has_ids (sheet_of table file) ≡ true
    → {p notes : List ℕ} → p ≡ bytes_of rs file → length notes ≡ size → Notable (sheet_of table file) p notes
notable table rs recorded single file h i d e long =
    record {
      recorded = subst Recorded (sym e) (recorded file h i (ids-recorded (sheet_of table file) d));
      single = subst (AllIdsOnce (sheet_of table file)) (sym e) (single file h i d);
      room = long;
    }

-- a file whose records were noted can be searched
noted-in : (table : ℕ) (rs : Feeds) (file : ℕ) → has_ids (sheet_of table file) ≡ true → {p notes : List ℕ} → p ≡ bytes_of rs file
    → Indexed (sheet_of table file) p notes → Searchable (sheet_of table file) (bytes_of rs file) notes
noted-in table rs file d e h = searchable_by (sym e) refl (record { ids = d; noted = h })

-- regions
pub note_records-regions-requires : goal.note_records-regions-requires
note_records-regions-requires c =
    let a = c.args in let x = c.requires in let d = has-ids a.table 8 (omega arith) (omega arith) in
    (d, notable a.table (map (λ p. p.now) a.records) x.0 x.1 8 (omega arith) (omega arith) d c.file_in.ensures fresh)

-- stations, which name regions
pub judge_early-stations-requires : goal.judge_early-stations-requires
judge_early-stations-requires c =
    let a = c.args in let x = c.requires in let rs = map (λ p. p.now) a.records in (
      record { least = omega arith; most = omega arith },
      notable a.table rs x.0 x.1 2 (omega arith) (omega arith) (has-ids a.table 2 (omega arith) (omega arith)) refl fresh,
      record {
        types = λ h. absurd (omega arith);
        stations = λ h. absurd (omega arith);
        plans = λ h. absurd (h refl);
        regions = λ e. noted-in a.table rs 8 (has-ids a.table 8 (omega arith) (omega arith)) c.file_in.ensures c.note_records-regions.ensures.2;
      },
    )

-- plans
pub note_records-plans-requires : goal.note_records-plans-requires
note_records-plans-requires c =
    let a = c.args in let x = c.requires in let d = has-ids a.table 5 (omega arith) (omega arith) in
    (d, notable a.table (map (λ p. p.now) a.records) x.0 x.1 5 (omega arith) (omega arith) d c.file_in-2.ensures fresh)

-- types, which name plans
pub judge_early-types-requires : goal.judge_early-types-requires
judge_early-types-requires c =
    let a = c.args in let x = c.requires in let rs = map (λ p. p.now) a.records in (
      record { least = omega arith; most = omega arith },
      notable a.table rs x.0 x.1 1 (omega arith) (omega arith) (has-ids a.table 1 (omega arith) (omega arith)) refl c.note_records-regions.ensures.2.long,
      record {
        types = λ h. absurd (omega arith);
        stations = λ h. absurd (omega arith);
        plans = λ h. noted-in a.table rs 5 (has-ids a.table 5 (omega arith) (omega arith)) c.file_in-2.ensures c.note_records-plans.ensures.2;
        regions = λ e. absurd (omega arith);
      },
    )

pub judge_noted-requires : goal.judge_noted-requires
judge_noted-requires c =
    let a = c.args in let x = c.requires in let rs = map (λ p. p.now) a.records in
    let n = c.note_records-regions.ensures in let m = c.note_records-plans.ensures in
    record {
      known = λ file h.
          record {
            types = λ i. c.judge_early-types.ensures.1;
            stations = λ i. c.judge_early-stations.ensures.1;
            plans = λ i. noted-in a.table rs 5 (has-ids a.table 5 (omega arith) (omega arith)) c.file_in-2.ensures m.2;
            regions = λ e. absurd (omega arith);
          };
      recorded = x.0;
      single = x.1;
      narrow = x.2;
      types = c.judge_early-types.ensures.0;
      stations = c.judge_early-stations.ensures.0;
      plans = found_in c.file_in-2.ensures (record { repeats = m.0; breaks = m.1 ∙ records-none _ 5 (omega arith) (λ e. omega arith) _ });
      regions = found_in c.file_in.ensures (record { repeats = n.0; breaks = n.1 ∙ records-none _ 8 (omega arith) (λ e. omega arith) _ });
    }
