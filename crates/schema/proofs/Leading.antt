-- The rows of a file's records stand at their lines: what leads to them stands before them inside the file's shape, row by row.
use mathlib.Core.List.{List, [], ◌∷◌, ◌++◌, map, append-nil, append_assoc}
use mathlib.Core.Path.{◌≡◌, refl, sym, ap, subst, ◌∙◌}
use Prim.Native.Nat.{ℕ, zero, suc, ◌+◌}
use native.Mathlib.Omega.{arith}
use lib.ListN.{length, get_or, length-append}
use Rattle.notation.proofs.Options.{none-some, some-some}
use Rattle.schema.specs.Shape as shape
use Rattle.schema.specs.Shape.{Shape, Rows, Need, Table, unlisted, file_shape}
use Rattle.schema.specs.Records.{Way, way_in, way_through, record_in}
use Rattle.schema.specs.inner.Line.{Entry, inside, entries, file_entries, entries_of, ranges_from, nowhere, file_ranges, file_lines}
use Rattle.schema.specs.inner.RecordLines.{lines_before, lines_above, records_from, record_ranges, record_lines}
use Rattle.schema.proofs.Walk.{Stands, stands-left, stands_right, LaidIn, file_lined}
use Rattle.std.specs.Prelude.{Option, None, Some}

-- so many entries stand before a part of a list
record Behind (whole : List Entry) (before : ℕ) (part : List Entry) : Type 0 where
  front : List Entry
  rest : List Entry
  is : whole ≡ front ++ (part ++ rest)
  many : length front ≡ before

-- through a row that leads to records, or past one that does not
module _ (field : ℕ) (need : Need) (name : List ℕ) (σ : Shape) (rows : Rows) where
  abbrev entry : Entry
  entry = record { field = field; need = need; name = name; shape = σ }

  abbrev above : Option Way → ℕ
  above o = elim o [ None ↦ suc (length (inside σ) + lines_above rows) | Some w ↦ suc (lines_before σ) ]

  row_behind : {w : Way} (o : Option Way) → way_in σ ≡ o
      → elim o [ None ↦ way_through rows | Some u ↦ Some (record { keys = record { field = field; name = name } ∷ u.keys; item = u.item }) ] ≡ Some w
      → ((u : Way) → way_in σ ≡ Some u → Behind (inside σ) (lines_before σ) (inside u.item))
      → (way_through rows ≡ Some w → Behind (entries rows) (lines_above rows) (inside w.item))
      → Behind (entries (shape.row field need name σ rows)) (lines_above (shape.row field need name σ rows)) (inside w.item)
  unfolding entries lines_above
  row_behind {w} None h e f g =
      let i = g e in
      record {
        front = entry ∷ (inside σ ++ i.front);
        rest = i.rest;
        is = ap (λ (l : List Entry). entry ∷ l) (ap (λ (l : List Entry). inside σ ++ l) i.is ∙ sym (append_assoc (inside σ) i.front (inside w.item ++ i.rest)));
        many =
            let k : suc (length (inside σ ++ i.front)) ≡ suc (length (inside σ) + lines_above rows) = omega (arith, length-append (inside σ) i.front, i.many) in
            k ∙ sym (ap above h);
      }
  row_behind {w} (Some u) h e f g =
      let i = f u h in
      let item : inside u.item ≡ inside w.item = ap (λ (v : Way). inside v.item) (some-some e) in
      record {
        front = entry ∷ i.front;
        rest = i.rest ++ entries rows;
        is = ap (λ (l : List Entry). entry ∷ l)
            (ap (λ (l : List Entry). l ++ entries rows) i.is
            ∙ append_assoc i.front (inside u.item ++ i.rest) (entries rows)
            ∙ ap (λ (l : List Entry). i.front ++ l) (append_assoc (inside u.item) i.rest (entries rows))
            ∙ ap (λ (l : List Entry). i.front ++ (l ++ (i.rest ++ entries rows))) item);
        many = ap suc i.many ∙ sym (ap above h);
      }

mutual
  unfolding way_in lines_before inside

  way_behind : (σ : Shape) {w : Way} → way_in σ ≡ Some w → Behind (inside σ) (lines_before σ) (inside w.item)
  way_behind shape.unlisted e = none-some e
  way_behind (shape.scalar sort) e = none-some e
  way_behind (shape.array shape.records most σ) e =
      record { front = []; rest = []; is = sym (append-nil (inside σ)) ∙ ap (λ (u : Way). inside u.item ++ []) (some-some e); many = refl }
  way_behind (shape.array shape.subs most σ) e = none-some e
  way_behind (shape.array shape.outer most σ) e = none-some e
  way_behind (shape.array shape.positions most σ) e = none-some e
  way_behind (shape.object rows) e = way_above rows e

  way_above : (rows : Rows) {w : Way} → way_through rows ≡ Some w → Behind (entries rows) (lines_above rows) (inside w.item)
  way_above shape.no_row e = none-some e
  way_above (shape.row field need name σ rows) e = row_behind field need name σ rows (way_in σ) refl e (λ u h. way_behind σ h) (λ h. way_above rows h)

-- file by file
from_first : (k : ℕ) (t : Table) (i : ℕ) → (get_or (records_from k t) i nowhere).first ≡ (get_or (ranges_from k (map inside t)) i nowhere).first + lines_before (get_or t i unlisted)
unfolding records_from ranges_from lines_before
from_first k [] i = refl
from_first k (σ ∷ t) zero = refl
from_first k (σ ∷ t) (suc i) = from_first (k + length (inside σ)) t i

from-count : (k : ℕ) (t : Table) (i : ℕ) → (get_or (records_from k t) i nowhere).count ≡ length (inside (record_in (get_or t i unlisted)))
unfolding records_from record_in way_in inside
from-count k [] i = refl
from-count k (σ ∷ t) zero = refl
from-count k (σ ∷ t) (suc i) = from-count (k + length (inside σ)) t i

module _ (t : Table) where
  record_first : (file : ℕ) → (record_lines t file).first ≡ (file_lines t file).first + lines_before (file_shape t file)
  unfolding record_ranges file_ranges file_entries file_shape lines_before
  record_first zero = refl
  record_first (suc i) = from_first 0 t i

  pub record_count : (file : ℕ) → (record_lines t file).count ≡ length (inside (record_in (file_shape t file)))
  unfolding record_ranges file_shape record_in way_in inside
  record_count zero = refl
  record_count (suc i) = from-count 0 t i

  -- the lines that are inside a record
  pub record_laid : (file : ℕ) {w : Way} → way_in (file_shape t file) ≡ Some w → LaidIn t (record_lines t file).first w.item
  record_laid file {w} e =
      let b = way_behind (file_shape t file) e in
      let file' = subst (Stands (entries_of t) (file_lines t file).first) b.is (file_lined t file).laid in
      let k : (file_lines t file).first + length b.front ≡ (record_lines t file).first = ap (λ (n : ℕ). (file_lines t file).first + n) b.many ∙ sym (record_first file) in
      subst (λ (i : ℕ). LaidIn t i w.item) k
      (stands-left (inside w.item) b.rest (stands_right b.front (inside w.item ++ b.rest) file'))
