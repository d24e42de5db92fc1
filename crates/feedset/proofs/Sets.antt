-- A set of files that are through stages A and B: what the code answers of each from bytes is the least of what it breaks, so the first file that
-- breaks a rule is stage C's; and its rule fits the word.
use mathlib.Core.Bool.{true}
use mathlib.Core.List.{List, ◌++◌}
use mathlib.Core.Path.{◌≡◌, refl, sym, ap, ◌∙◌}
use Prim.Native.Nat.{ℕ, ◌≤◌}
use native.Mathlib.Omega.{arith}
use lib.Dec.{ltb}
use lib.ListN.{length}
use Rattle.notation.proofs.Booleans.{by_test}
use Rattle.schema.specs.Tables.{table_at, sheet_of}
use Rattle.schema.specs.Records.{has_records}
use Rattle.schema.proofs.SheetShapes.{sheet_shape_lem}
use Rattle.fault.specs.declared.Fault.{Fault}
use Rattle.fault.specs.Fault.{least, lesser}
use Rattle.fault.specs.Outcome.{file_count, outcome_of}
use Rattle.fault.proofs.Leasts.{lesser_assoc, least_append}
use Rattle.cross.specs.Cross.{cross_faults}
use Rattle.cross.specs.Stage.{Feeds, bytes_of, picked}
use Rattle.cross.specs.inner.Judged.{files_by}
use Rattle.cross.specs.inner.Stage.{first_c}
use Rattle.cross.proofs.FromFile.{first-same}
use Rattle.cross.proofs.Tabled.{recordless}
use Rattle.cross.proofs.Files.{here-is, file_sheet, InBytes}
use Rattle.cross.proofs.Bounds.{cross_fits}
use Rattle.cross.proofs.Sets.{cross_same}
use Rattle.feedset.specs.inner.Staged.{file_least, set_outcome, AllNarrow}
use Rattle.feedset.proofs.Staging.{bare-least}
use Rattle.std.specs.Prelude.{Option}

least-three : (xs ys zs : List Fault) → lesser (least xs) (lesser (least ys) (least zs)) ≡ least (xs ++ ys ++ zs)
least-three xs ys zs =
    sym (least_append (xs ++ ys) zs ∙ ap (λ (u : Option Fault). lesser u (least zs)) (least_append xs ys) ∙ lesser_assoc (least xs) (least ys) (least zs))

-- all files of a set, each with the rest from its records on; of file 7, which has none, all of it
pub record AllInBytes (table : ℕ) (s rs : Feeds) : Type 0 where
  pub recorded : (file : ℕ) → 1 ≤ file → file ≤ file_count → has_records (sheet_of table file) ≡ true → InBytes (sheet_of table file) (bytes_of s file) (bytes_of rs file)
  pub bare : bytes_of rs 7 ≡ bytes_of s 7

module _ (table : ℕ) (s rs : Feeds) (all : AllInBytes table s rs) where
  joined-least : (file : ℕ) → 1 ≤ file → file ≤ file_count → file_least table rs file ≡ least (cross_faults (table_at table) (files_by table rs) file)
  unfolding file_least cross_faults
  joined-least file h i =
      by_test (has_records (sheet_of table file))
      (λ k. rw (file_least, ← (all.recorded file h i k).repeated, sheet_shape_lem table file) (least-three _ _ _))
      (λ k. rw (recordless table file h i k) (bare-least table rs))

  file-least : (file : ℕ) → 1 ≤ file → file ≤ file_count → file_least table rs file ≡ least (cross_faults (table_at table) (picked (table_at table) s) file)
  file-least file h i =
      joined-least file h i
      ∙ ap least
      (cross_same table (files_by table rs) (picked (table_at table) s)
      (λ k a b c. sym (file_sheet table k (bytes_of s k) ∙ (all.recorded k a b c).is))
      (ap (λ (p : List ℕ). ltb 0 (length p)) all.bare ∙ here-is (table_at table) 7 (bytes_of s 7)) file h i)

  pub outcome_is : set_outcome table rs ≡ first_c (table_at table) (picked (table_at table) s)
  unfolding first_c
  outcome_is = first-same _ _ (λ file h i. ap (outcome_of file) (file-least file h i))

  -- a word can have their numbers
  pub all-narrow : AllNarrow table rs
  all-narrow file h i f e =
      let t = cross_fits table (picked (table_at table) s) file h i refl (all.recorded file h i) f (sym (file-least file h i) ∙ e) in
      (omega (arith, t.rec), omega (arith, t.sub))
