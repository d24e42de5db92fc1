-- What stages B and C find first in a file is within the word, in a set whose files are through the stages before: a file has no more records, nor a record
-- more items, than the word can number.
use mathlib.Core.List.{List, [], ◌∷◌}
use mathlib.Core.Path.{◌≡◌, refl, sym, ap, ◌∙◌}
use Prim.Native.Nat.{ℕ, ◌≤◌}
use native.Mathlib.Omega.{arith}
use lib.ListN.{drop, length-drop}
use Rattle.word.specs.Kinds.{name_twice, sum_differs}
use Rattle.schema.specs.Shape.{Shape}
use Rattle.schema.specs.Tables.{table_at, sheet_shape, sheet_of}
use Rattle.schema.proofs.SheetShapes.{sheet_shape_lem}
use Rattle.fault.specs.declared.Fault.{Fault}
use Rattle.fault.specs.Fault.{least}
use Rattle.fault.specs.Outcome.{file_count}
use Rattle.judge.specs.Bounds.{greatest, fields}
use Rattle.judge.specs.Faults.{file_faults}
use Rattle.judge.proofs.Fits.{first_fits}
use Rattle.document.proofs.Along.{ends-same}
use Rattle.document.specs.declared.Span.{Span}
use Rattle.document.specs.Spans.{records_span}
use Rattle.document.specs.inner.Spans.{RecordsFrom}
use Rattle.document.proofs.Along.{along-none}
use Rattle.clean.specs.Clean.{tree_of}
use Rattle.cross.specs.Cross.{cross_faults}
use Rattle.cross.specs.inner.Stage.{AllPassAB}
use Rattle.cross.proofs.Files.{file-bytes}
use Rattle.cross.proofs.Bounds as cross
use Rattle.cross.specs.Stage.{Feeds, bytes_of, picked}
use Rattle.verdict.specs.inner.Stages.{faults_b}
use Rattle.std.specs.Prelude.{Some, Option, None}

-- a fault that the word can say
pub record InWord (f : Fault) : Type 0 where
  pub rec : f.«record» ≤ greatest
  pub field : f.field ≤ fields
  pub sub : f.sub ≤ greatest
  pub low : name_twice ≤ f.kind
  pub high : f.kind ≤ sum_differs

-- stage B: what is found by a file's shape is found by its sheet's
pub faults_fit : (table file : ℕ) (s : List ℕ) (f : Fault) → least (faults_b (table_at table) file s) ≡ Some f → InWord f
unfolding least
faults_fit table file [] f e = let z : ◌≡◌ {A = ℕ} 0 1 = cc in absurd (omega arith)
faults_fit table file (b ∷ s) f e =
    let same = ap (λ (σ : Shape). least (file_faults σ (tree_of (b ∷ s)))) (sheet_shape_lem table file) in
    let h = first_fits (sheet_of table file) (tree_of (b ∷ s)) f (same ∙ e) in let k = h.kind in
    record { rec = h.rec; field = h.field; sub = h.sub; low = k.least; high = omega arith }

-- stage C

-- the rest of a file from its records on
records-rest : (sheet : ℕ) (s : List ℕ) → (p : List ℕ) × RecordsFrom sheet s p
records-rest sheet s = go (records_span (sheet_shape sheet) s) refl
  where
    go : (o : Option Span) → records_span (sheet_shape sheet) s ≡ o → (p : List ℕ) × RecordsFrom sheet s p
    go None e = ([], record { inside = omega arith; starts = λ h from upto i. let z : ◌≡◌ {A = ℕ} 0 1 = cc in absurd (omega arith); none = λ k. refl })
    go (Some p) e = (
      drop p.from s,
      record {
        inside = omega (arith, length-drop p.from s);
        starts = λ h from upto i. ap (λ (k : ℕ). drop k s) (ends-same (sym e ∙ i)).0;
        none = λ k. let n = along-none sheet s k in let z : ◌≡◌ {A = ℕ} 0 1 = cc in absurd (omega arith);
      },
    )

pub cross_fits : (table : ℕ) (s : Feeds) → AllPassAB table s → (file : ℕ) → 1 ≤ file → file ≤ file_count
    → (f : Fault) → least (cross_faults (table_at table) (picked (table_at table) s) file) ≡ Some f → InWord f
cross_fits table s through file h i f e =
    let sheet = sheet_of table file in
    let c =
    cross.cross_fits table (picked (table_at table) s) file h i refl
    (λ r. file-bytes sheet r (bytes_of s file) (through file h i) (records-rest sheet (bytes_of s file)).1) f e in
    let k = c.kind in
    record { rec = c.rec; field = c.field; sub = c.sub; low = omega arith; high = k.most }
