-- Files whose records break nothing in stage C: those past 4 but for 6, and file 7, which has none at all.
use mathlib.Core.Bool.{false}
use mathlib.Core.List.{List, [], ◌∷◌, ◌++◌, append-nil}
use mathlib.Core.Path.{◌≡◌, refl, sym, ap, ap₂, subst, ◌∙◌}
use Prim.Native.Nat.{ℕ, ◌+◌, ◌<◌}
use native.Mathlib.Omega.{arith}
use Rattle.word.specs.Kinds.{condition}
use Rattle.schema.specs.Shape.{Shape, file_shape}
use Rattle.schema.specs.Tables.{table_at, sheet_of}
use Rattle.schema.specs.Records.{Key, has_ids}
use Rattle.schema.specs.Pick.{Picked}
use Rattle.schema.proofs.Recorded.{no_key}
use Rattle.schema.proofs.SheetShapes.{sheet_shape_lem}
use Rattle.fault.specs.declared.Fault.{Fault}
use Rattle.fault.specs.Fault.{least, top, faulty}
use Rattle.fault.proofs.Leasts.{none-least}
use Rattle.clean.specs.Clean.{repeats_from, repeats_in}
use Rattle.ids.specs.References.{kind_if}
use Rattle.cross.specs.Cross.{Files, each_record, faults_of, missing_file, cross_faults}
use Rattle.cross.proofs.Tabled.{has-ids}
use Rattle.cross.proofs.Fielded.{breaks-nothing}
use Rattle.std.specs.Prelude.{None, Option, Some}

-- records of files past 4, but for those of file 6, break nothing
module _ (s : Files) (file : ℕ) (a : 4 < file) (b : file ≡ 6 → ⊥) where
  each-nothing : (n : ℕ) (l : List Picked) → each_record (faults_of s file) n l ≡ []
  unfolding each_record
  each-nothing n [] = refl
  each-nothing n (x ∷ l) = rw (each_record, breaks-nothing s file n a b x) (each-nothing (n + 1) l)

  pub records-none : (l : List Picked) → None ≡ least (each_record (faults_of s file) 1 l)
  records-none l = sym (none-least _ (each-nothing 1 l))

-- File 7 has no records: it breaks a rule only where it is not there, and whatever stands for its records is not asked.
module _ (table : ℕ) where
  pub no-ids : has_ids (sheet_of table 7) ≡ false
  no-ids = has-ids table 7 (omega arith) (omega arith)

  no-repeats : (l : List Picked) → repeats_in (file_shape (table_at table) 7) l ≡ []
  no-repeats l =
      subst (λ (σ : Shape). repeats_in σ l ≡ []) (sheet_shape_lem table 7)
      (ap (λ (o : Option Key). elim o [ None ↦ [] | Some k ↦ repeats_from k.field 1 [] l ]) (no_key (sheet_of table 7) no-ids))

  pub bare-faults : (s : Files) → cross_faults (table_at table) s 7 ≡ faulty top 0 (kind_if (missing_file s 7) condition)
  unfolding cross_faults
  bare-faults s =
      let presence = faulty top 0 (kind_if (missing_file s 7) condition) in
      ap₂ (λ (k l : List Fault). presence ++ k ++ l) (no-repeats (s 7).records) (each-nothing s 7 (omega arith) (λ e. omega arith) 1 (s 7).records)
      ∙ append-nil (presence ++ [])
      ∙ append-nil presence
