-- A sheet has the shape of its file in its table. Each table has the same number of files, so that counting a table's number of them off leads from one table to
-- the next.
use mathlib.Core.Bool.{Bool, true}
use mathlib.Core.List.{List, [], ◌∷◌, ◌++◌, flatten}
use mathlib.Core.Path.{◌≡◌, refl, sym, ap, ◌∙◌}
use Prim.Native.Nat.{ℕ, zero, suc, ◌+◌, ◌*◌, ◌≤◌, ◌<◌}
use native.Mathlib.Nat.{zero-mul, suc-mul}
use native.Mathlib.Omega.{arith}
use lib.Dec.{eqb, leb}
use lib.ListN.{length, get_or, get_or-append, get_or-eq_default}
use lib.Seq.{get_or-append-add}
use borrow.Author.Tests.{eqb-true, leb-true, leb-false, eq-eqb, ne_eqb, lt-ltb, le-ltb, le-leb, lt-leb}
use Rattle.notation.specs.Choice.{◌and◌}
use Rattle.notation.proofs.Booleans.{and_left, and_right, by_test}
use Rattle.schema.specs.Shape.{Table, unlisted, file_shape}
use Rattle.schema.specs.Table23.{table23}
use Rattle.schema.specs.Tables.{tables, table_at, sheets, table_files, sheet_of, written}
use Rattle.schema.proofs.Computed.{no-file}

-- whatever is shown of every table there is, one after the other, is shown of the table of any number
pub at-tables : (P : Table → Type 0) → P table23 → (table : ℕ) → P (table_at table)
unfolding table_at tables
at-tables P p zero = p
at-tables P p (suc k) = p

-- every table of a list has n files
unfoldable all_have : ℕ → List Table → Bool
all_have n [] = true
all_have n (t ∷ ts) = eqb (length t) n and all_have n ts

-- then the i-th file of the k-th table is found among all files by counting k times n files off, and i more
among : (n : ℕ) (ts : List Table) → all_have n ts ≡ true → (k i : ℕ) → k < length ts → i < n →
    get_or (flatten ts) (k * n + i) unlisted ≡ get_or (get_or ts k table23) i unlisted
unfolding all_have flatten
among n [] e k i h g = absurd (omega arith)
among n (t ∷ ts) e zero i h g =
    let m = eqb-true (length t) n (and_left (eqb (length t) n) (all_have n ts) e) in
    ap (λ (j : ℕ). get_or (t ++ flatten ts) j unlisted) (ap (λ (z : ℕ). z + i) (zero-mul n) ∙ omega arith)
    ∙ get_or-append t (flatten ts) unlisted i (omega (arith, m))
among n (t ∷ ts) e (suc k) i h g =
    let m = eqb-true (length t) n (and_left (eqb (length t) n) (all_have n ts) e) in
    ap (λ (j : ℕ). get_or (t ++ flatten ts) j unlisted) (omega (arith, suc-mul k n, m))
    ∙ get_or-append-add t (flatten ts) (k * n + i) unlisted
    ∙ among n ts (and_right (eqb (length t) n) (all_have n ts) e) k i (omega arith) g

all_have_lem : all_have table_files tables ≡ true
unfolding all_have written
all_have_lem = refl

pub files-each : (table : ℕ) → length (table_at table) ≡ table_files
unfolding written
files-each table = at-tables (λ (t : Table). length t ≡ table_files) refl table

-- how many tables there are
pub table-count : length tables ≡ 1
unfolding tables
table-count = refl

-- the number of a sheet, as each test of the definition gives it
module _ (table file : ℕ) where
  pub sheet_none : file ≡ 0 → sheet_of table file ≡ 0
  unfolding sheet_of
  sheet_none h = rw (sheet_of, eq-eqb file 0 h)

  module _ (g : file ≡ 0 → ⊥) where
    pub sheet_past : table_files < file → sheet_of table file ≡ 0
    unfolding sheet_of
    sheet_past h = rw (sheet_of, ne_eqb file 0 g, lt-ltb table_files file h)

    module _ (h : file ≤ table_files) where
      pub sheet_first : length tables ≤ table → sheet_of table file ≡ file
      unfolding sheet_of
      sheet_first i = rw (sheet_of, ne_eqb file 0 g, le-ltb table_files file h, le-leb (length tables) table i)

      pub sheet_inside : table < length tables → sheet_of table file ≡ table * table_files + file
      unfolding sheet_of
      sheet_inside i = rw (sheet_of, ne_eqb file 0 g, le-ltb table_files file h, lt-leb (length tables) table i)

-- a number that no table has, and one of a table
module _ (table i : ℕ) (h : i < table_files) where
  shape-first : length tables ≤ table → file_shape sheets (sheet_of table (suc i)) ≡ file_shape (table_at table) (suc i)
  unfolding file_shape sheets table_at
  shape-first g =
      ap (file_shape sheets) (sheet_first table (suc i) (λ z. omega arith) (omega arith) g)
      ∙ ap (λ (j : ℕ). get_or (flatten tables) j unlisted) (omega arith)
      ∙ among table_files tables all_have_lem 0 i (omega (arith, table-count)) h
      ∙ ap (λ (t : Table). get_or t i unlisted) (first-is ∙ sym (get_or-eq_default tables table23 {n = table} g))
    where
      first-is : get_or tables 0 table23 ≡ table23
      first-is = unfold tables in refl

  shape-inside : table < length tables → file_shape sheets (sheet_of table (suc i)) ≡ file_shape (table_at table) (suc i)
  unfolding file_shape sheets table_at
  shape-inside g =
      let next : table * table_files + suc i ≡ suc (table * table_files + i) = omega arith in
      ap (file_shape sheets) (sheet_inside table (suc i) (λ z. omega arith) (omega arith) g ∙ next) ∙ among table_files tables all_have_lem table i g h

pub sheet_shape_lem : (table file : ℕ) → file_shape sheets (sheet_of table file) ≡ file_shape (table_at table) file
sheet_shape_lem table zero = unfold sheet_of file_shape in refl
sheet_shape_lem table (suc i) =
    by_test (leb table_files i)
    (λ t. ap (file_shape sheets) (sheet_past table (suc i) (λ z. omega arith) (omega (arith, leb-true table_files i t)))
    ∙ no-file sheets 0 (λ a b. omega arith) ∙ sym (no-file (table_at table) (suc i) (λ a b. omega (arith, files-each table, leb-true table_files i t))))
    (λ t. by_test (leb (length tables) table) (λ u. shape-first table i (leb-false table_files i t) (leb-true (length tables) table u))
    (λ u. shape-inside table i (leb-false table_files i t) (leb-false (length tables) table u)))

-- the first table is that of version 2.3
pub first-table : table_at 0 ≡ table23
unfolding table_at tables
first-table = refl
