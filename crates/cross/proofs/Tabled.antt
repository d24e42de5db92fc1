-- What all tables have alike: which files have records, and records ids, with the same field; and the rows that stage C reads, which have the same number in
-- every table. It is computed for each table, and so holds of the one that a number stands for, and of its sheets.
use mathlib.Core.Bool.{Bool, true, false, not}
use mathlib.Core.List.{[]}
use mathlib.Core.Path.{◌≡◌, refl, sym, ap, ap₂, subst, ◌∙◌}
use Prim.Native.Nat.{ℕ, ◌≤◌, ◌<◌}
use native.Mathlib.Omega.{arith}
use lib.Dec.{eqb, leb}
use lib.ListN.{length, get_or}
use borrow.Author.Tests.{eqb-true, ne_eqb, le-ltb, leb-true, leb-false}
use Rattle.limits.specs.Ceilings as ceiling
use Rattle.notation.specs.Choice.{◌and◌}
use Rattle.notation.specs.Given.{given}
use Rattle.notation.proofs.Booleans.{by_test, true-false}
use Rattle.schema.specs.Shape as shape
use Rattle.schema.specs.Shape.{Shape, Rows, Sort, Table, file_shape}
use Rattle.schema.specs.Table23.{available, zone}
use Rattle.schema.specs.Tables.{tables, table_files, table_at, sheet_shape, sheet_of}
use Rattle.schema.specs.Later.{rows_of}
use Rattle.schema.specs.Records.{way_in, record_in, record_shape, has_records, id_of, has_ids, located, identified}
use Rattle.schema.proofs.Computed.{no-file}
use Rattle.schema.proofs.SheetShapes.{at-tables, sheet_shape_lem, files-each}
use Rattle.slots.specs.inner.Rows.{names_in}
use Rattle.fault.specs.Outcome.{file_count}
use Rattle.document.proofs.Rows.{Lists}
use Rattle.document.proofs.FieldBytes.{row_of, listed}
use Rattle.document.proofs.Ways.{records-of}
use Rattle.ids.specs.inner.Ids.{id_field}
use Rattle.ids.specs.inner.Known.{test_of}
use Rattle.cross.specs.inner.Judged.{id_number, asked_of, Referring}
use Rattle.cross.proofs.Numbers.{Each, by_number}
use Rattle.std.specs.Prelude.{None, Some}

-- what holds of a file's shape in a table holds of its sheet's
by_sheet : (P : Shape → Type 0) (table file : ℕ) → P (file_shape (table_at table) file) → P (sheet_shape (sheet_of table file))
by_sheet P table file h = subst P (sym (sheet_shape_lem table file)) h

-- Records: file 7 alone has none.
all-records : (table : ℕ) → Each (λ file. given (way_in (file_shape (table_at table) file)) ≡ not (eqb file 7)) 1 file_count
unfolding Each located
all-records table =
    at-tables (λ (t : Table). Each (λ file. given (way_in (file_shape t file)) ≡ not (eqb file 7)) 1 file_count)
    (refl, (refl, (refl, (refl, (refl, (refl, (refl, (refl, tt)))))))) table

module _ (table file : ℕ) (h : 1 ≤ file) (i : file ≤ file_count) where
  pub has-records : has_records (sheet_of table file) ≡ not (eqb file 7)
  has-records =
      by_sheet (λ σ. given (way_in σ) ≡ not (eqb file 7)) table file
      (by_number (λ n. given (way_in (file_shape (table_at table) n)) ≡ not (eqb n 7)) (all-records table) file h i)

  pub recordless : has_records (sheet_of table file) ≡ false → file ≡ 7
  recordless e = by_test (eqb file 7) (λ t. eqb-true file 7 t) (λ t. true-false (has-records ∙ ap not t) e)

-- Ids: records of file 6 have none either.
abbrev identifies : ℕ → Bool
identifies file = not (eqb file 6) and not (eqb file 7)

all_ids : (table : ℕ) → Each (λ file. given (id_of (file_shape (table_at table) file)) ≡ identifies file) 1 file_count
unfolding Each identified
all_ids table =
    at-tables (λ (t : Table). Each (λ file. given (id_of (file_shape t file)) ≡ identifies file) 1 file_count)
    (refl, (refl, (refl, (refl, (refl, (refl, (refl, (refl, tt)))))))) table

pub has-ids : (table file : ℕ) → 1 ≤ file → file ≤ file_count → has_ids (sheet_of table file) ≡ identifies file
has-ids table file h i =
    by_sheet (λ σ. given (id_of σ) ≡ identifies file) table file (by_number (λ n. given (id_of (file_shape (table_at table) n)) ≡ identifies n) (all_ids table) file h i)

-- records that refer to others have ids
pub referring_ids : (table : ℕ) {file : ℕ} → Referring file → has_ids (sheet_of table file) ≡ true
referring_ids table {file} h =
    let least = h.least in let most = h.most in
    has-ids table file least (omega arith) ∙ ap₂ (λ a b. not a and not b) (ne_eqb file 6 (λ e. omega arith)) (ne_eqb file 7 (λ e. omega arith))

-- the field of a file's ids, where it has any
abbrev id_field_in : Shape → ℕ
id_field_in σ = elim (id_of σ) [ None ↦ 0 | Some k ↦ k.field ]

all-fields : (table : ℕ) → Each (λ file. given (id_of (file_shape (table_at table) file)) ≡ true → id_field_in (file_shape (table_at table) file) ≡ id_number file) 1 file_count
unfolding Each identified
all-fields table =
    at-tables (λ (t : Table). Each (λ file. given (id_of (file_shape t file)) ≡ true → id_field_in (file_shape t file) ≡ id_number file) 1 file_count)
    (λ e. refl, (λ e. refl, (λ e. refl, (λ e. refl, (λ e. refl, (λ e. true-false e refl, (λ e. true-false e refl, (λ e. refl, tt)))))))) table

module _ (table file : ℕ) (h : has_ids (sheet_of table file) ≡ true) where
  -- a number that is no file's has none
  no_other : {A : Type 0} → (1 ≤ file → file ≤ file_count → ⊥) → A
  unfolding identified
  no_other k =
      true-false h (ap (λ σ. given (id_of σ)) (sheet_shape_lem table file ∙ no-file (table_at table) file (λ a b. k a (omega (arith, files-each table)))))

  least-file : 1 ≤ file
  least-file = by_test (leb 1 file) (λ t. leb-true 1 file t) (λ t. no_other (λ a b. omega (arith, leb-false 1 file t)))

  most-file : file ≤ file_count
  most-file = by_test (leb file file_count) (λ t. leb-true file file_count t) (λ t. no_other (λ a b. omega (arith, leb-false file file_count t)))

  pub id_number_lem : id_field (sheet_of table file) ≡ id_number file
  unfolding id_field
  id_number_lem =
      by_sheet (λ σ. given (id_of σ) ≡ true → id_field_in σ ≡ id_number file) table file
      (by_number (λ n. given (id_of (file_shape (table_at table) n)) ≡ true → id_field_in (file_shape (table_at table) n) ≡ id_number n) (all-fields table) file least-file most-file) h

-- What is asked of a record that a reference names: there is one table, whose sheets have the numbers of its files.
sheet_is : (table file : ℕ) → 1 ≤ file → file ≤ file_count → sheet_of table file ≡ file
unfolding sheet_of tables
sheet_is table file h i =
    let Some = ne_eqb file 0 (λ e. omega arith) in let few = le-ltb table_files file (omega arith) in
    by_test (leb (length tables) table) (λ t. rw (sheet_of, Some, few, t))
    (λ t. let k : table < 1 = leb-false 1 table t in rw (sheet_of, Some, few, t) (omega arith))

pub asked_is : (table file : ℕ) → has_ids (sheet_of table file) ≡ true → test_of (sheet_of table file) ≡ asked_of file
asked_is table file h = ap test_of (sheet_is table file (least-file table file h) (most-file table file h))

-- The rows of a sheet's records.
abbrev pub record_rows : (sheet : ℕ) → Rows
record_rows sheet = rows_of (record_shape sheet)

pub object-rows : (sheet : ℕ) → has_records sheet ≡ true → record_shape sheet ≡ shape.object (record_rows sheet)
unfolding rows_of
object-rows sheet h = let d = records-of sheet h in d.object ∙ ap shape.object (sym (ap rows_of d.object))

-- the row j lists the field f: a value of one sort; or an array, whose items are numbered
pub record Value (rows : Rows) (j f : ℕ) : Type 0 where
  pub sort : Sort
  pub lists : Lists f (get_or (names_in rows) j []) (shape.scalar sort) rows
  pub short : j < length (names_in rows)

pub record Listing (rows : Rows) (j f most : ℕ) (item : Shape) : Type 0 where
  pub lists : Lists f (get_or (names_in rows) j []) (shape.array shape.subs most item) rows
  pub short : j < length (names_in rows)

value : {rows : Rows} {j f : ℕ} {s : Sort} → Lists f (get_or (names_in rows) j []) (shape.scalar s) rows → j < length (names_in rows) → Value rows j f
value {s = s} l h = record { sort = s; lists = l; short = h }

pub record TypeRows (rows : Rows) : Type 0 where
  pub motor : Value rows 2 12
  pub range : Value rows 3 13
  pub plan : Value rows 4 14

pub record StationRows (rows : Rows) : Type 0 where
  pub region : Value rows 5 25

pub record StatusRows (rows : Rows) : Type 0 where
  pub station : Value rows 0 30
  pub bikes : Value rows 1 31
  pub docks : Value rows 2 32
  pub counts : Listing rows 7 37 ceiling.items available

pub record BikeRows (rows : Rows) : Type 0 where
  pub lat : Value rows 1 41
  pub lon : Value rows 2 42
  pub type : Value rows 5 45
  pub range : Value rows 6 46
  pub station : Value rows 7 47
  pub plan : Value rows 8 48

module _ (table : ℕ) where
  pub type_rows : TypeRows (record_rows (sheet_of table 1))
  unfolding identified row_of names_in
  type_rows =
      by_sheet (λ σ. TypeRows (rows_of (record_in σ))) table 1
      (at-tables (λ (t : Table). TypeRows (rows_of (record_in (file_shape t 1))))
      (record { motor = value (listed refl) (omega arith); range = value (listed refl) (omega arith); plan = value (listed refl) (omega arith) }) table)

  pub station-rows : StationRows (record_rows (sheet_of table 2))
  unfolding identified row_of names_in
  station-rows =
      by_sheet (λ σ. StationRows (rows_of (record_in σ))) table 2
      (at-tables (λ (t : Table). StationRows (rows_of (record_in (file_shape t 2)))) (record { region = value (listed refl) (omega arith) }) table)

  pub status-rows : StatusRows (record_rows (sheet_of table 3))
  unfolding identified row_of names_in
  status-rows =
      by_sheet (λ σ. StatusRows (rows_of (record_in σ))) table 3
      (at-tables (λ (t : Table). StatusRows (rows_of (record_in (file_shape t 3))))
      (record {
        station = value (listed refl) (omega arith);
        bikes = value (listed refl) (omega arith);
        docks = value (listed refl) (omega arith);
        counts = record { lists = listed refl; short = omega arith };
      }) table)

  pub bike-rows : BikeRows (record_rows (sheet_of table 4))
  unfolding identified row_of names_in
  bike-rows =
      by_sheet (λ σ. BikeRows (rows_of (record_in σ))) table 4
      (at-tables (λ (t : Table). BikeRows (rows_of (record_in (file_shape t 4))))
      (record {
        lat = value (listed refl) (omega arith);
        lon = value (listed refl) (omega arith);
        type = value (listed refl) (omega arith);
        range = value (listed refl) (omega arith);
        station = value (listed refl) (omega arith);
        plan = value (listed refl) (omega arith);
      }) table)

  -- zones are one shape in all tables
  pub zone-shape : record_shape (sheet_of table 6) ≡ zone
  unfolding located
  zone-shape = by_sheet (λ σ. record_in σ ≡ zone) table 6 (at-tables (λ (t : Table). record_in (file_shape t 6) ≡ zone) refl table)
