-- What a file of a set breaks in stage C is a function of what the set has of its files.
use mathlib.Core.Bool.{true}
use mathlib.Core.List.{◌++◌}
use mathlib.Core.Path.{◌≡◌, sym, ap, ◌∙◌}
use Prim.Native.Nat.{ℕ, ◌≤◌}
use native.Mathlib.Omega.{arith}
use Rattle.notation.proofs.Booleans.{by_test}
use Rattle.word.specs.Kinds.{condition}
use Rattle.schema.specs.Shape.{file_shape}
use Rattle.schema.specs.Tables.{table_at, sheet_of}
use Rattle.schema.specs.Records.{has_records}
use Rattle.schema.specs.Pick.{Picked}
use Rattle.fault.specs.Fault.{top, faulty}
use Rattle.fault.specs.Outcome.{file_count}
use Rattle.clean.specs.Clean.{repeats_in}
use Rattle.ids.specs.References.{kind_if}
use Rattle.cross.specs.Cross.{Files, type_faults, station_faults, status_faults, bike_faults, each_record, faults_of, missing_file, cross_faults}
use Rattle.cross.proofs.Tabled.{has-records, recordless}
use Rattle.cross.proofs.Bare.{bare-faults}

-- of file 7 alone, of whether it is there
module _ (table : ℕ) (s t : Files) (e : (file : ℕ) → 1 ≤ file → file ≤ file_count → has_records (sheet_of table file) ≡ true → s file ≡ t file)
    (bare : (s 7).here ≡ (t 7).here) where
  at_1 : s 1 ≡ t 1
  at_1 = e 1 (omega arith) (omega arith) (has-records table 1 (omega arith) (omega arith))

  at_2 : s 2 ≡ t 2
  at_2 = e 2 (omega arith) (omega arith) (has-records table 2 (omega arith) (omega arith))

  at_3 : s 3 ≡ t 3
  at_3 = e 3 (omega arith) (omega arith) (has-records table 3 (omega arith) (omega arith))

  at_4 : s 4 ≡ t 4
  at_4 = e 4 (omega arith) (omega arith) (has-records table 4 (omega arith) (omega arith))

  at_5 : s 5 ≡ t 5
  at_5 = e 5 (omega arith) (omega arith) (has-records table 5 (omega arith) (omega arith))

  at_8 : s 8 ≡ t 8
  at_8 = e 8 (omega arith) (omega arith) (has-records table 8 (omega arith) (omega arith))

  record_same : (file n : ℕ) (x : Picked) → faults_of s file n x ≡ faults_of t file n x
  unfolding faults_of type_faults station_faults status_faults bike_faults
  record_same file n x = rw (faults_of, type_faults, station_faults, status_faults, bike_faults, at_1, at_2, at_5, at_8)

  absent-same : (file : ℕ) → missing_file s file ≡ missing_file t file
  unfolding missing_file
  absent-same file = rw (missing_file, at_2, at_3, at_4, bare)

  recorded-same : (file : ℕ) → s file ≡ t file → cross_faults (table_at table) s file ≡ cross_faults (table_at table) t file
  unfolding cross_faults
  recorded-same file k j =
      faulty top 0 (kind_if (absent-same file j) condition) ++
      repeats_in (file_shape (table_at table) file) (k j).records ++
      each_record (λ n x. record_same file n x j) 1 (k j).records

  bare-same : cross_faults (table_at table) s 7 ≡ cross_faults (table_at table) t 7
  bare-same = bare-faults table s ∙ ap (λ b. faulty top 0 (kind_if b condition)) (absent-same 7) ∙ sym (bare-faults table t)

  pub cross_same : (file : ℕ) → 1 ≤ file → file ≤ file_count → cross_faults (table_at table) s file ≡ cross_faults (table_at table) t file
  cross_same file h i =
      by_test (has_records (sheet_of table file)) (λ k. recorded-same file (e file h i k)) (λ k. rw (recordless table file h i k) bare-same)
