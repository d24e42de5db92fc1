-- The judge's loop over any table's rows: the least fault so far, with the faults of the rows that are left, makes the least of all.
use mathlib.Core.Bool.{true}
use mathlib.Core.List.{List}
use mathlib.Core.Path.{◌≡◌, refl, sym, ap, subst, ◌∙◌}
use Prim.Native.Nat.{ℕ, ◌+◌, ◌≤◌, ◌<◌}
use native.Mathlib.Omega.{arith}
use lib.ListN.{length, get_or}
use Rattle.notation.proofs.Booleans.{and_left, and_right}
use Rattle.json_text.specs.Tree.{Json, Members}
use Rattle.walk.specs.Walk.{part}
use Rattle.walk.specs.Part.{Whole}
use Rattle.schema.specs.declared.Line.{Line}
use Rattle.schema.specs.Shape as shape
use Rattle.schema.specs.Shape.{Shape, Rows, Need}
use Rattle.schema.specs.inner.Line.{line_at}
use Rattle.schema.specs.Pick.{Slot, missing, once, twice, unless_blank, find, put, pick, pick_rows}
use Rattle.schema.specs.Tables.{sheets}
use Rattle.schema.proofs.Walk.{Laid, lines_in, step, first-row, no-row}
use Rattle.slots.specs.declared.Slots.{Slots as Filled}
use Rattle.slots.specs.inner.Rows.{most_rows, names_in, line_names, row_line}
use Rattle.slots.specs.inner.Slots.{slot_at, gathered}
use Rattle.slots.proofs.Picks.{Slotted, slotted_all}
use Rattle.fault.specs.Fault.{lesser, least}
use Rattle.fault.proofs.Leasts.{lesser-none, none-lesser, lesser_assoc, least_append}
use Rattle.fault.specs.declared.Place.{Place}
use Rattle.judge.specs.Faults.{row_faults_by, row_faults}
use Rattle.judge.specs.inner.Judgeable.{judgeable, judgeable_rows}
use Rattle.judge.specs.inner.Judged.{member_faults, row_least, Member, Kept, Listed, RowsJudged}
use Rattle.judge.proofs.Values.{Row, row-judged}
use Rattle.std.specs.Prelude.{Option, None}
use Rattle.fault.specs.declared.Fault.{Fault}

-- one part more: what it adds goes over to the least so far
pub passed : (acc this rest : Option Fault) {all total : Option Fault} → all ≡ lesser this rest → lesser acc all ≡ total → lesser (lesser acc this) rest ≡ total
passed acc this rest e t = lesser_assoc acc this rest ∙ ap (lesser acc) (sym e) ∙ t

-- a row and the rows below it
pub row_first : (q : Place) (field : ℕ) (need : Need) (name : List ℕ) (σ : Shape) (rows : Rows) (ms : Members) →
    least (row_faults (shape.row field need name σ rows) q (pick_rows (shape.row field need name σ rows) ms)) ≡
    lesser (least (member_faults need σ q field (unless_blank (find name ms)))) (least (row_faults rows q (pick_rows rows ms)))
unfolding row_faults_by pick_rows
row_first q field need name σ rows ms = go (unless_blank (find name ms))
  where
    go : (o : Slot Json) → least (row_faults (shape.row field need name σ rows) q (put field (λ y. pick σ y) o (pick_rows rows ms))) ≡
        lesser (least (member_faults need σ q field o)) (least (row_faults rows q (pick_rows rows ms)))
    go missing = least_append _ _
    go (once x) = least_append _ _
    go twice = least_append _ _

pub no_rows : (q : Place) (ms : Members) → least (row_faults shape.no_row q (pick_rows shape.no_row ms)) ≡ None
unfolding row_faults_by least
no_rows q ms = refl

-- the rows that are left, at line i and slot `row`
pub record Left (p : List ℕ) (s : Filled) (end : ℕ) (q : Place) (level i row : ℕ) (acc : Option Fault) (ms : Members) (total : Option Fault) : Type 0 where
  pub rest : Rows
  pub laid : Laid sheets i rest
  pub ends : i + lines_in rest ≡ end
  pub few : row + length (names_in rest) ≤ most_rows
  pub judgeable-rest : judgeable_rows rest level ≡ true
  pub slotting : Slotted p s row rest
  pub makes : lesser acc (least (row_faults rest q (pick_rows rest ms))) ≡ total

-- whatever object filled the slots
abbrev pub RowsGo : Filled → List (Option Fault) → ℕ → ℕ → Place → ℕ → ℕ → Option Fault → Type 0
RowsGo slots leasts first count q i row acc =
    (p : List ℕ) (level : ℕ) (rows : Rows) → Listed first count level rows → (ms : Members) → Whole p (Json.object ms) →
    slots ≡ gathered p (line_names first count) → Kept p first q level slots leasts →
    Left p slots (first + count) q level i row acc ms (least (row_faults rows q (pick_rows rows ms)))

-- past the row at the front of those that are left
row_passed : (p : List ℕ) (s : Filled) (end : ℕ) (q : Place) (level i row : ℕ) (acc : Option Fault) (ms : Members) (total : Option Fault) {line : Line} {r : Option Fault} →
    line ≡ line_at sheets i → Row p (slot_at s row) i q level r → Whole p (Json.object ms) →
    (field : ℕ) (need : Need) (name : List ℕ) (σ : Shape) (below : Rows) → Laid sheets i (shape.row field need name σ below) →
    i + lines_in (shape.row field need name σ below) ≡ end → row + length (names_in (shape.row field need name σ below)) ≤ most_rows →
    judgeable_rows (shape.row field need name σ below) level ≡ true →
    Slotted p s row (shape.row field need name σ below) →
    lesser acc (least (row_faults (shape.row field need name σ below) q (pick_rows (shape.row field need name σ below) ms))) ≡ total →
    Left p s end q level (i + 1 + line.inside) (row + 1) (lesser acc r) ms total
unfolding judgeable_rows names_in
row_passed p s end q level i row acc ms total at o w field need name σ below l h m e f t =
    let k = step sheets i field need name σ below l in
    record {
      rest = below;
      laid = rw at k.next;
      ends = rw at (sym k.ends ∙ h);
      few = omega arith;
      judgeable-rest = and_right (judgeable σ level) (judgeable_rows below level) e;
      slotting = f.1;
      makes =
          rw (o.is (record { field = field; need = need; name = name; value = σ; below = below; laid = l }) (and_left (judgeable σ level) (judgeable_rows below level) e) ms w f.0)
          (passed acc _ _ (row_first q field need name σ below ms) t);
    }

no_name : (rows : Rows) → length (names_in rows) ≡ 0 → rows ≡ shape.no_row
unfolding names_in
no_name shape.no_row e = refl
no_name (shape.row field need name σ rows) e = absurd (omega arith)

module _ (slots : Filled) (leasts : List (Option Fault)) (first count : ℕ) (q : Place) where
  pub rows_start : RowsGo slots leasts first count q first 0 None
  rows_start p level rows t ms w e kept =
      record {
        rest = rows;
        laid = t.laid;
        ends = ap (λ (k : ℕ). first + k) t.lines;
        few = omega (arith, t.few);
        judgeable-rest = t.judgeable-rest;
        slotting = slotted_all p first count slots e rows t.laid t.lines t.distinct t.few;
        makes = none-lesser _;
      }

  pub rows_next : (i row : ℕ) (acc : Option Fault) {line : Line} {r : Option Fault} → line ≡ line_at sheets i → i < first + count → row < most_rows → i ≡ row_line sheets first row →
      r ≡ row_least (slot_at slots row) (get_or leasts row None) line q →
      RowsGo slots leasts first count q i row acc → RowsGo slots leasts first count q (i + 1 + line.inside) (row + 1) (lesser acc r)
  rows_next i row acc {line} {r} at h few here j go p level rows t ms w e kept =
      let k = go p level rows t ms w e kept in
      let s = slots in
      let value = get_or leasts row None in
      let total = least (row_faults rows q (pick_rows rows ms)) in
      let f = first-row k.rest (omega (arith, k.ends)) in
      let o =
      row-judged p s row i q level value at few j (λ a b m. subst (λ (l : ℕ). Member (part p a b) l q level value) (sym here) (kept.is row a b few m)) in
      subst (λ (z : Rows). Laid sheets i z → i + lines_in z ≡ first + count → row + length (names_in z) ≤ most_rows → judgeable_rows z level ≡ true → Slotted p s row z →
      lesser acc (least (row_faults z q (pick_rows z ms))) ≡ total → Left p s (first + count) q level (i + 1 + line.inside) (row + 1) (lesser acc r) ms total)
      (sym f.is) (row_passed p s (first + count) q level i row acc ms total at o w f.field f.need f.name f.value f.below)
      k.laid k.ends k.few k.judgeable-rest k.slotting k.makes

  -- none is left
  rows-done : (i row : ℕ) (acc : Option Fault) → ((rest : Rows) → i + lines_in rest ≡ first + count → row + length (names_in rest) ≤ most_rows → rest ≡ shape.no_row) →
      RowsGo slots leasts first count q i row acc → RowsJudged slots leasts first count q acc
  rows-done i row acc none go =
      record {
        is = λ p level rows t ms w e kept.
            let k = go p level rows t ms w e kept in
            let z : k.rest ≡ shape.no_row = none k.rest k.ends k.few in
            sym (lesser-none acc) ∙ ap (lesser acc) (sym (ap (λ (y : Rows). least (row_faults y q (pick_rows y ms))) z ∙ no_rows q ms)) ∙ k.makes;
      }

  pub rows_end : (i row : ℕ) (acc : Option Fault) → first + count ≤ i → RowsGo slots leasts first count q i row acc → RowsJudged slots leasts first count q acc
  rows_end i row acc h = rows-done i row acc (λ rest e few. no-row rest (omega arith))

  pub rows-full : (i row : ℕ) (acc : Option Fault) → most_rows ≤ row → RowsGo slots leasts first count q i row acc → RowsJudged slots leasts first count q acc
  rows-full i row acc h = rows-done i row acc (λ rest e few. no_name rest (omega arith))
