-- What "show record" shows, told by trees. A clean file that is there passes stages A and B, so its records stand in an array, each an object without a fault, and
-- the code's spans are those of the tree's items; an absent file has none, and neither has a file without records.
use mathlib.Core.Bool.{true, false}
use mathlib.Core.List.{List, [], ◌∷◌, map}
use mathlib.Core.Path.{◌≡◌, refl, sym, ap, subst, ◌∙◌}
use Prim.Native.Nat.{ℕ, zero, suc, ◌≤◌, ◌<◌}
use native.Mathlib.Omega.{arith}
use lib.Dec.{leb, ltb}
use lib.ListN.{length, length-map}
use borrow.Author.Tests.{leb-true, leb-false, ltb-true, ltb-false}
use Rattle.limits.specs.Ceilings.{depth}
use Rattle.notation.proofs.Booleans.{by_test}
use Rattle.word.specs.Word.{no_parts}
use Rattle.lexeme.specs.Read.{then}
use Rattle.lexeme.specs.Tokens.{blanks}
use Rattle.json_text.specs.Tree as tree
use Rattle.json_text.specs.Tree.{Json}
use Rattle.json_text.specs.Text.{text, syntax_of}
use Rattle.json_text.proofs.Values.{value-empty}
use Rattle.walk.specs.Walk.{part, items_of}
use Rattle.walk.specs.Part as walk
use Rattle.walk.specs.Part.{Whole}
use Rattle.walk.proofs.Files.{passed}
use Rattle.walk.proofs.Parts.{item_of}
use Rattle.schema.specs.Shape.{Shape, file_shape}
use Rattle.schema.specs.Records.{Way, way_in, way_to, record_shape, has_records}
use Rattle.schema.specs.Pick.{pick}
use Rattle.schema.proofs.Recorded.{no_way}
use Rattle.schema.specs.Tables.{table_at, sheet_shape, sheet_of}
use Rattle.schema.proofs.SheetShapes.{sheet_shape_lem}
use Rattle.fault.specs.Outcome.{file_count, Outcome, unbroken}
use Rattle.judge.specs.Faults.{faults}
use Rattle.document.specs.Document.{given}
use Rattle.document.specs.declared.Span.{Span}
use Rattle.document.specs.Spans.{nth_in, record_span}
use Rattle.document.specs.inner.Spans.{Listed}
use Rattle.document.specs.Trees.{value_along, items_in, record_trees, numbered}
use Rattle.document.proofs.Along.{along-none}
use Rattle.document.proofs.Rests.{records-listed, no_record}
use Rattle.document.proofs.Ways.{records-of}
use Rattle.document.proofs.Records.{item_trees, array, as_many, RecordAt, record_at, record_past, record_none}
use Rattle.document.proofs.Trees.{object_braces, records-trees}
use Rattle.clean.specs.Clean.{tree_of, clean_by, clean_in, clean_of}
use Rattle.clean.specs.Show.{Answer, refused, shown, of_span, of_clean, shown_by, shown_of}
use Rattle.clean.specs.ShowTree.{Has, IsRecord, ShowsRecords}
use Rattle.clean.proofs.Faultless.{object-there}
use Rattle.clean.proofs.Repeated.{Held, tree_is}
use Rattle.clean.proofs.Judged.{shown-none, shown_of_lem}
use Rattle.clean.proofs.Cleans.{clean-sound, clean-held}
use Rattle.std.specs.Prelude.{Err, Ok, Option, None, Some}

-- a clean file that is there has its records
module _ (sheet file : ℕ) (s : List ℕ) (some : length s ≡ 0 → ⊥) (e : clean_in (sheet_shape sheet) file s ≡ unbroken) where
  sound : syntax_of s ≡ Ok tt
  sound = (clean-sound sheet file s some e).reads

  records : has_records sheet ≡ true → Held sheet s (tree_of s)
  records t = clean-held sheet t s (clean-sound sheet file s some e)

  module _ (h : 1 ≤ file) (i : file ≤ file_count) (t : has_records sheet ≡ true) where
    by_span : (n : ℕ) → shown_by (sheet_shape sheet) file n s ≡ of_span (record_span (sheet_shape sheet) s n)
    by_span n = sym (shown_of_lem (sheet_shape sheet) file n s h i unbroken (sym e))

    trees : record_trees (sheet_shape sheet) (tree_of s) ≡ item_trees (array (records t).there)
    trees = ap (record_trees (sheet_shape sheet)) (tree_is s (passed s sound)) ∙ records-trees sheet (passed s sound) (records t).there

    many : length (record_trees (sheet_shape sheet) (tree_of s)) ≡ length (records t).list
    many =
        let p = array (records t).there in
        ap length trees ∙ length-map (items_of p) (λ m. walk.part_tree (item_of p m)) ∙ sym (as_many (records t).there)

    -- the record of number k + 1 is an object
    object : (k : ℕ) (r : RecordAt (records t).there (suc k)) → (ms : tree.Members) × (r.tree ≡ tree.object ms)
    object k r =
        let d = records t in
        let y = d.sound (pick (record_shape sheet) r.tree) r.picked in
        let w = records-of sheet t in
        let o = object-there y.0 d.field w.rows r.tree
        (subst (λ (σ : Shape). faults σ y.0 d.field (pick σ r.tree) ≡ []) w.object y.1) in
        (o.0, o.1)

    shown-at : (k : ℕ) → k < length (record_trees (sheet_shape sheet) (tree_of s))
        → (from : ℕ) × (upto : ℕ) × (shown_by (sheet_shape sheet) file (suc k) s ≡ shown from upto) × IsRecord (sheet_shape sheet) (suc k) s from upto
    unfolding record_span
    shown-at k j =
        let r = record_at (records t).there k (omega (arith, many)) in
        let o = object k r in
        let b = object_braces (subst (Whole (part s r.start r.end)) o.1 r.there.whole) in (
          r.start,
          r.end,
          by_span (suc k) ∙ ap of_span r.is,
          record {
            tree = r.tree;
            numbered = ap (numbered (suc k)) trees ∙ r.numbered;
            inside = r.there.inside;
            whole = r.there.whole;
            between = b.0;
            brackets = b.1;
          },
        )

    shown-past : (k : ℕ) → length (record_trees (sheet_shape sheet) (tree_of s)) ≤ k → (shown_by (sheet_shape sheet) file (suc k) s).number ≡ 10
    unfolding record_span
    shown-past k j = ap (λ (a : Answer). a.number) (by_span (suc k) ∙ ap of_span (record_past (records t).there k (omega (arith, many))))

    shown-zero : (shown_by (sheet_shape sheet) file 0 s).number ≡ 10
    unfolding record_span
    shown-zero = ap (λ (a : Answer). a.number) (by_span 0 ∙ ap of_span (record_none (records t).there))

-- a clean file has its records in an array, or has none, or is not there
pub listed : (sheet file : ℕ) (s : List ℕ) → clean_in (sheet_shape sheet) file s ≡ unbroken → Listed sheet s
listed sheet file [] e = Listed.absent refl
listed sheet file (b ∷ s) e =
    let some : length (b ∷ s) ≡ 0 → ⊥ = λ z. omega arith in
    by_test (has_records sheet) (λ t. records-listed (sound sheet file (b ∷ s) some e) (records sheet file (b ∷ s) some e t).there) (λ t. Listed.recordless t)

-- an absent file has no records, by its tree as by its bytes
none-along : (names : List (List ℕ)) → items_in (value_along names tree.null) ≡ []
unfolding value_along
none-along [] = refl
none-along (name ∷ names) = refl

absent-null : tree_of [] ≡ tree.null
unfolding tree_of text blanks then
absent-null = rw (tree_of, text, value-empty depth)

absent_none : (sheet : ℕ) → record_trees (sheet_shape sheet) (tree_of []) ≡ []
unfolding record_trees
absent_none sheet = ap (record_trees (sheet_shape sheet)) absent-null ∙ go (way_to sheet)
  where
    go : (o : Option Way) → ◌≡◌ {A = List Json} (elim o [ None ↦ [] | Some w ↦ items_in (value_along (map (λ k. k.name) w.keys) tree.null) ]) []
    go None = refl
    go (Some w) = none-along _

-- nor has a file without records
recordless-none : (sheet : ℕ) (x : Json) → has_records sheet ≡ false → record_trees (sheet_shape sheet) x ≡ []
unfolding record_trees
recordless-none sheet x t = rw (record_trees, no_way sheet t)

recordless-shown : (sheet file n : ℕ) (s : List ℕ) → 1 ≤ file → file ≤ file_count → has_records sheet ≡ false → shown_by (sheet_shape sheet) file n s ≡ of_clean (clean_in (sheet_shape sheet) file s) (refused 10 no_parts)
unfolding record_span
recordless-shown sheet file n s h i t =
    sym (shown_of_lem (sheet_shape sheet) file n s h i (clean_in (sheet_shape sheet) file s) refl) ∙ ap (λ (z : Option Span). of_clean (clean_in (sheet_shape sheet) file s) (of_span (nth_in s z n))) (along-none sheet s t)

absent-shown : (sheet file n : ℕ) → 1 ≤ file → file ≤ file_count → (shown_by (sheet_shape sheet) file n []).number ≡ 10
unfolding clean_by
absent-shown sheet file n h i = ap (λ (a : Answer). a.number) (sym (shown_of_lem (sheet_shape sheet) file n [] h i unbroken refl) ∙ ap of_span (no_record sheet n))

-- The law.
never : {A : Type 0} {k : ℕ} → k ≡ 0 → 1 ≤ k → A
never e h = absurd (omega arith)

abbrev Shown : (sheet file n : ℕ) → List ℕ → Type 0
Shown sheet file n s = (from : ℕ) × (upto : ℕ) × (shown_by (sheet_shape sheet) file n s ≡ shown from upto) × IsRecord (sheet_shape sheet) n s from upto

answers : (sheet file n : ℕ) (s : List ℕ) → Has (sheet_shape sheet) file n s → Shown sheet file n s
answers sheet file zero s h = absurd (omega (arith, h.first))
answers sheet file (suc k) [] h = absurd (omega (arith, h.last, ap length (absent_none sheet)))
answers sheet file (suc k) (b ∷ s) h =
    by_test (has_records sheet) (λ t. shown-at sheet file (b ∷ s) (λ z. omega arith) h.clean h.least h.most t k (omega (arith, h.last)))
    (λ t. absurd (omega (arith, h.last, ap length (recordless-none sheet (tree_of (b ∷ s)) t))))

module _ (sheet file : ℕ) (h : 1 ≤ file) (i : file ≤ file_count) where
  has_record : has_records sheet ≡ true → (n : ℕ) (s : List ℕ) → clean_in (sheet_shape sheet) file s ≡ unbroken → (shown_by (sheet_shape sheet) file n s).number ≡ 0 → Has (sheet_shape sheet) file n s
  has_record r n [] c e = never (sym (absent-shown sheet file n h i) ∙ e) (omega arith)
  has_record r zero (b ∷ s) c e = never (sym (shown-zero sheet file (b ∷ s) (λ z. omega arith) c h i r) ∙ e) (omega arith)
  has_record r (suc k) (b ∷ s) c e =
      by_test (ltb k (length (record_trees (sheet_shape sheet) (tree_of (b ∷ s)))))
      (λ t. let j = ltb-true k (length (record_trees (sheet_shape sheet) (tree_of (b ∷ s)))) t in
      record { least = h; most = i; clean = c; first = omega arith; last = omega arith })
      (λ t. never (sym (shown-past sheet file (b ∷ s) (λ z. omega arith) c h i r k (ltb-false k (length (record_trees (sheet_shape sheet) (tree_of (b ∷ s)))) t)) ∙ e) (omega arith))

  has-clean : (n : ℕ) (s : List ℕ) → clean_in (sheet_shape sheet) file s ≡ unbroken → (shown_by (sheet_shape sheet) file n s).number ≡ 0 → Has (sheet_shape sheet) file n s
  has-clean n s c e =
      by_test (has_records sheet) (λ t. has_record t n s c e)
      (λ t. never (sym (ap (λ (a : Answer). a.number) (recordless-shown sheet file n s h i t ∙ ap (λ (o : Outcome). of_clean o (refused 10 no_parts)) c)) ∙ e) (omega arith))

  has : (n : ℕ) (s : List ℕ) (x : Outcome) → clean_in (sheet_shape sheet) file s ≡ x → (shown_by (sheet_shape sheet) file n s).number ≡ 0 → Has (sheet_shape sheet) file n s
  has n s (Ok _) c e = has-clean n s c e
  has n s (Err p) c e = never (ap (λ (a : Answer). a.number) (shown_of_lem (sheet_shape sheet) file n s h i (Err p) (sym c)) ∙ e) (omega arith)

only : (sheet file n : ℕ) (s : List ℕ) → (shown_by (sheet_shape sheet) file n s).number ≡ 0 → Has (sheet_shape sheet) file n s
only sheet file n s e =
    by_test (leb 1 file)
    (λ t. by_test (leb file file_count) (λ u. has sheet file (leb-true 1 file t) (leb-true file file_count u) n s (clean_in (sheet_shape sheet) file s) refl e)
    (λ u. never (ap (λ (a : Answer). a.number) (shown-none (sheet_shape sheet) file n s (λ h i. omega (arith, leb-false file file_count u))) ∙ e) (omega arith)))
    (λ t. never (ap (λ (a : Answer). a.number) (shown-none (sheet_shape sheet) file n s (λ h i. omega (arith, leb-false 1 file t))) ∙ e) (omega arith))

shows : (sheet file n : ℕ) (s : List ℕ) → (shown_by (sheet_shape sheet) file n s).number ≡ 0
    → IsRecord (sheet_shape sheet) n s (shown_by (sheet_shape sheet) file n s).from (shown_by (sheet_shape sheet) file n s).upto
shows sheet file n s e =
    let a = answers sheet file n s (only sheet file n s e) in
    subst (λ (z : Answer). IsRecord (sheet_shape sheet) n s z.from z.upto) (sym a.2) a.3

-- By a table: its file has the shape of a sheet.
module _ (table file n : ℕ) (s : List ℕ) where
  by_sheet : (P : Shape → Type 0) → P (sheet_shape (sheet_of table file)) → P (file_shape (table_at table) file)
  by_sheet P = subst P (sheet_shape_lem table file)

  answered-by : Has (file_shape (table_at table) file) file n s → (shown_of (table_at table) file n s).number ≡ 0
  answered-by =
      by_sheet (λ (σ : Shape). Has σ file n s → (shown_by σ file n s).number ≡ 0) (λ h. ap (λ (a : Answer). a.number) (answers (sheet_of table file) file n s h).2)

  only-by : (shown_of (table_at table) file n s).number ≡ 0 → Has (file_shape (table_at table) file) file n s
  only-by = by_sheet (λ (σ : Shape). (shown_by σ file n s).number ≡ 0 → Has σ file n s) (only (sheet_of table file) file n s)

  shows-by : (shown_of (table_at table) file n s).number ≡ 0
      → IsRecord (file_shape (table_at table) file) n s (shown_of (table_at table) file n s).from (shown_of (table_at table) file n s).upto
  shows-by =
      by_sheet (λ (σ : Shape). (shown_by σ file n s).number ≡ 0 → IsRecord σ n s (shown_by σ file n s).from (shown_by σ file n s).upto) (shows (sheet_of table file) file n s)

  recordless-by : 1 ≤ file → file ≤ file_count → given (way_in (file_shape (table_at table) file)) ≡ false
      → shown_of (table_at table) file n s ≡ of_clean (clean_of (table_at table) file s) (refused 10 no_parts)
  recordless-by =
      by_sheet (λ (σ : Shape). 1 ≤ file → file ≤ file_count → given (way_in σ) ≡ false → shown_by σ file n s ≡ of_clean (clean_in σ file s) (refused 10 no_parts))
      (recordless-shown (sheet_of table file) file n s)

pub shows-records : (table : ℕ) → ShowsRecords (table_at table)
shows-records table = record { answered = answered-by table; only = only-by table; shows = shows-by table; recordless = recordless-by table }
