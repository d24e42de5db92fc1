-- The steps of stage C in bytes: what one file is asked.
use mathlib.Core.Bool.{true, false}
use mathlib.Core.List.{List}
use mathlib.Core.Path.{◌≡◌, sym, ap, ap₂, subst, ◌∙◌}
use Prim.Native.Nat.{ℕ}
use native.Mathlib.Omega.{arith}
use borrow.Author.Tests.{ne_eqb}
use Rattle.word.specs.Kinds.{condition}
use Rattle.schema.specs.Tables.{table_at, sheet_of}
use Rattle.schema.specs.Records.{has_ids}
use Rattle.fault.specs.Fault.{least, lesser, top, faulty}
use Rattle.fault.proofs.Leasts.{lesser-none}
use Rattle.ids.specs.inner.Ids.{id_field, record_bytes, first_repeat}
use Rattle.clean.specs.inner.Blamed.{blamed}
use Rattle.ids.specs.References.{kind_if}
use Rattle.cross.specs.Cross.{Files, missing_file, cross_faults}
use Rattle.cross.specs.Stage.{Feeds, bytes_of}
use Rattle.cross.specs.inner.Judged.{files_by}
use Rattle.cross.specs.inner.Recorded.{repeat_of, ids_least}
use Rattle.cross.proofs.Bare.{records-none, no-ids, bare-faults}
use Rattle.feedset.specs.declared.records.Findings.{Findings}
use Rattle.feedset.specs.inner.Staged.{Finds, Found, file_least}
use Rattle.std.specs.Prelude.{Option, None}
use Rattle.fault.specs.declared.Fault.{Fault}

-- most files are not called for
pub called_else : (s : Files) (file : ℕ) → (file ≡ 2 → ⊥) → (file ≡ 3 → ⊥) → (file ≡ 4 → ⊥) → (file ≡ 7 → ⊥) → false ≡ missing_file s file
unfolding missing_file
called_else s file h i j k = rw (missing_file, ne_eqb file 2 h, ne_eqb file 3 i, ne_eqb file 4 j, ne_eqb file 7 k)

-- where records have ids
pub repeat_is : (sheet : ℕ) → has_ids sheet ≡ true → (p : List ℕ) → first_repeat sheet (record_bytes p) ≡ repeat_of sheet p
unfolding repeat_of
repeat_is sheet h p = rw (repeat_of, h)

-- and where they have none
pub no_repeat : (sheet : ℕ) → has_ids sheet ≡ false → (p : List ℕ) → 0 ≡ repeat_of sheet p
unfolding repeat_of
no_repeat sheet h p = rw (repeat_of, h)

-- a file by what is found of its records
pub file-is : (table : ℕ) (rs : Feeds) (file : ℕ) {found : Findings} → Found table rs file found
    → {a b : Option Fault} → a ≡ least (faulty top 0 (kind_if (missing_file (files_by table rs) file) condition)) → b ≡ blamed (id_field (sheet_of table file)) found.repeat
    → lesser a (lesser b found.least) ≡ file_least table rs file
unfolding file_least ids_least
file-is table rs file f e h = ap₂ lesser e (ap₂ lesser (h ∙ ap (blamed (id_field (sheet_of table file))) f.repeats) f.breaks)

-- what is found by a number, and of the bytes that a function was handed
pub found_at : {table : ℕ} {rs : Feeds} {file number : ℕ} {found : Findings} → file ≡ number → Found table rs number found → Found table rs file found
found_at {table} {rs} {found = found} e f = subst (λ (k : ℕ). Found table rs k found) (sym e) f

pub found_in : {table : ℕ} {rs : Feeds} {file : ℕ} {p : List ℕ} {found : Findings} → p ≡ bytes_of rs file → Finds table rs file p found → Found table rs file found
found_in {table} {rs} {file} {found = found} e f = subst (λ (q : List ℕ). Finds table rs file q found) e f

-- file 7, which has no records
module _ (table : ℕ) where
  pub bare-found : (rs : Feeds) → Found table rs 7 (record { repeat = 0; least = None })
  bare-found rs = record { repeats = no_repeat (sheet_of table 7) (no-ids table) _; breaks = records-none (files_by table rs) 7 (omega arith) (λ e. omega arith) _ }

  pub bare-least : (rs : Feeds) → file_least table rs 7 ≡ least (cross_faults (table_at table) (files_by table rs) 7)
  unfolding file_least ids_least
  bare-least rs =
      let presence = least (faulty top 0 (kind_if (missing_file (files_by table rs) 7) condition)) in
      ap₂ (λ (a x : Option Fault). lesser presence (lesser a x))
      (ap (blamed (id_field (sheet_of table 7))) (sym (no_repeat (sheet_of table 7) (no-ids table) (bytes_of rs 7))))
      (sym (records-none (files_by table rs) 7 (omega arith) (λ e. omega arith) (files_by table rs 7).records))
      ∙ ap (lesser presence) (lesser-none None)
      ∙ lesser-none presence
      ∙ ap least (sym (bare-faults table (files_by table rs)))
