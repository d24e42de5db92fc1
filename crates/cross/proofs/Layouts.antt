-- The rows of a sheet's records fill the lines that the table has for them, with a slot each; and so what a slot gives is the member of its row's name.
use mathlib.Core.Bool.{true}
use mathlib.Core.List.{List, []}
use mathlib.Core.Path.{◌≡◌, refl, sym, ap, subst, ◌∙◌}
use Prim.Native.Nat.{ℕ, ◌≤◌, ◌<◌}
use native.Mathlib.Omega.{arith}
use lib.ListN.{length, get_or}
use Rattle.text.specs.Text.{same}
use Rattle.json_text.specs.Tree as tree
use Rattle.json_text.specs.Tree.{Members}
use Rattle.walk.specs.Part.{Whole}
use Rattle.walk.proofs.Wholes.{whole-kind}
use Rattle.schema.specs.Shape.{Shape, Rows}
use Rattle.schema.specs.Later.{listed_in}
use Rattle.schema.specs.Tables.{sheets, written}
use Rattle.schema.specs.Records.{record_in, record_shape, has_records, located}
use Rattle.schema.specs.inner.Line.{inside}
use Rattle.schema.specs.inner.RecordLines.{record_lines}
use Rattle.schema.specs.inner.Sound.{distinct_names, distinct_rows}
use Rattle.schema.proofs.Computed.{every, every_file}
use Rattle.schema.proofs.Walk.{Laid, LaidIn, lines_in, laid-object}
use Rattle.schema.proofs.Leading.{record_count, record_laid}
use Rattle.slots.specs.declared.Slots.{Slots}
use Rattle.slots.specs.inner.Rows.{most_rows, names_in, few_in}
use Rattle.slots.specs.inner.Slots.{slot_at}
use Rattle.slots.proofs.Few.{few-rows}
use Rattle.document.specs.inner.Values.{kind_code, member_of}
use Rattle.document.proofs.ByKind.{found-standing, member-found}
use Rattle.document.proofs.Ways.{records-of}
use Rattle.cross.specs.inner.Judged.{Referring, Slotted, Reads}
use Rattle.cross.proofs.Tabled.{record_rows, object-rows}

-- these rows fill the lines of a sheet's records, with a slot each
pub record Layout (sheet : ℕ) (rows : Rows) : Type 0 where
  laid : Laid sheets (record_lines sheets sheet).first rows
  lines : lines_in rows ≡ (record_lines sheets sheet).count
  distinct : distinct_rows rows ≡ true
  few : length (names_in rows) ≤ most_rows

-- tests that are computed over all sheets
records-distinct : (sheet : ℕ) → distinct_names (record_shape sheet) ≡ true
unfolding every written located distinct_names listed_in same
records-distinct sheet = every_file (λ σ. distinct_names (record_in σ)) sheets refl refl sheet

records-few : (sheet : ℕ) → few_in (record_shape sheet) ≡ true
unfolding every written located few_in names_in
records-few sheet = every_file (λ σ. few_in (record_in σ)) sheets refl refl sheet

module _ (sheet : ℕ) (h : has_records sheet ≡ true) where
  laid_in : LaidIn sheets (record_lines sheets sheet).first (record_shape sheet)
  unfolding record_in
  laid_in = let d = records-of sheet h in rw (record_in, d.is) (record_laid sheets sheet d.is)

  pub layout : Layout sheet (record_rows sheet)
  unfolding inside distinct_names
  layout =
      let e = object-rows sheet h in
      record {
        laid = laid-object sheets (record_lines sheets sheet).first (record_rows sheet) (subst (LaidIn sheets (record_lines sheets sheet).first) e laid_in);
        lines = sym (record_count sheets sheet ∙ ap (λ (σ : Shape). length (inside σ)) e);
        distinct = subst (λ (σ : Shape). distinct_names σ ≡ true) e (records-distinct sheet);
        few = few-rows (record_rows sheet) (subst (λ (σ : Shape). few_in σ ≡ true) e (records-few sheet));
      }

-- what is read at a slot is the member of its row's name
module _ {p : List ℕ} {sheet : ℕ} {s : Slots} (g : Slotted sheet p s) {rows : Rows} (l : Layout sheet rows) (j : ℕ) (h : j < length (names_in rows))
    {q : List ℕ} (r : Reads p s j q) where
  pub slot-member : {ms : Members} → Whole p (tree.object ms) → q ≡ member_of p (get_or (names_in rows) j [])
  slot-member w =
      let name = get_or (names_in rows) j [] in let e = g.slot w rows l.laid l.lines l.distinct l.few j h in
      r (found-standing p name (slot_at s j) e) ∙ member-found p name 5 (sym (ap kind_code (whole-kind w))) refl (slot_at s j) e

-- past files 1 to 3 it is file 4
pub last_referring : {file : ℕ} → Referring file → (file ≡ 1 → ⊥) → (file ≡ 2 → ⊥) → (file ≡ 3 → ⊥) → file ≡ 4
last_referring h i j k = let a = h.least in let b = h.most in omega arith
