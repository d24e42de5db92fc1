-- Walking a table's lines is walking its rows, for any table. Where the rows of an object are laid out from line i on, line i is its first
-- row's, what is inside that row is laid out from i + 1 on, and the rows below it from i + 1 + inside on. All of it holds since the lines
-- are one list in which each of these is a part.
use mathlib.Core.List.{List, [], ◌∷◌, ◌++◌, map, flatten, append_assoc}
use mathlib.Core.Path.{◌≡◌, refl, sym, ◌∙◌, ap}
use Prim.Native.Nat.{ℕ, zero, suc, ◌+◌, ◌-◌, ◌<◌, ◌≤◌}
use native.Mathlib.Omega.{arith}
use lib.ListN.{length, get_or, take, drop, length-append}
use lib.Seq.{drop-drop, drop-append_seam, take-append_seam, drop_at}
use Rattle.schema.specs.declared.Range.{Range}
use Rattle.schema.specs.Shape as shape
use Rattle.schema.specs.Shape.{Shape, Rows, Need, Numbering, Table, unlisted, file_shape}
use Rattle.schema.specs.inner.Line.{Entry, inside, entries, file_entries, entries_of, line_of, lines_of, line_at, no_line, names_of, name_at, shape_words, line_words, words_at, words_of, ranges_from, range_at, nowhere, file_ranges, file_lines}

-- `part` stands in `whole` from place i on
pub record Stands {A : Type 0} (whole : List A) (i : ℕ) (part : List A) : Type 0 where
  pub rest : List A
  pub splits : drop i whole ≡ part ++ rest
  pub fits : i + length part ≤ length whole

module _ {A : Type 0} {whole : List A} {i : ℕ} where
  pub stands-left : (a b : List A) → Stands whole i (a ++ b) → Stands whole i a
  stands-left a b s =
      record {
        rest = b ++ s.rest;
        splits = s.splits ∙ append_assoc a b s.rest;
        fits = omega (arith, s.fits, length-append a b);
      }

  pub stands_right : (a b : List A) → Stands whole i (a ++ b) → Stands whole (i + length a) b
  stands_right a b s =
      record {
        rest = s.rest;
        splits =
            sym (drop-drop (length a) i whole) ∙ ap (drop (length a)) (s.splits ∙ append_assoc a b s.rest) ∙ drop-append_seam a (b ++ s.rest);
        fits = omega (arith, s.fits, length-append a b);
      }

  stands-part : (a : List A) → Stands whole i a → take (length a) (drop i whole) ≡ a
  stands-part a s = rw s.splits (take-append_seam a s.rest)

-- what a list has at the place of a part, seen through a column
map_at : {A B : Type 0} (f : A → B) (l : List A) (i : ℕ) (d : B) (x : A) (rest : List A) → drop i l ≡ x ∷ rest → get_or (map f l) i d ≡ f x
map_at f [] zero d x rest e = let z : ◌≡◌ {A = ℕ} 0 1 = cc in absurd (omega arith)
map_at f [] (suc i) d x rest e = let z : ◌≡◌ {A = ℕ} 0 1 = cc in absurd (omega arith)
map_at f (y ∷ l) zero d x rest e = ap f (cc)
map_at f (y ∷ l) (suc i) d x rest e = map_at f l i d x rest e

-- The lists that are laid one after the other stand at their ranges.

pub record Ranged {A : Type 0} (whole : List A) (first count : ℕ) (part : List A) : Type 0 where
  pub stands : Stands whole first part
  pub counts : count ≡ length part

-- a range cuts its list out, by its two ends
pub ranged_fits : {A : Type 0} {whole part : List A} {first count : ℕ} → Ranged whole first count part → first + count ≤ length whole
ranged_fits r = rw r.counts r.stands.fits

pub ranged_part : {A : Type 0} {whole part : List A} {first count : ℕ} → Ranged whole first count part → take (first + count - first) (drop first whole) ≡ part
ranged_part {part} {first} {count} r = let n : first + count - first ≡ length part = omega (arith, r.counts) in rw n (stands-part part r.stands)

pub ranged : {A : Type 0} (before : List A) (xs : List (List A)) (whole : List A) (k : ℕ) → whole ≡ before ++ flatten xs → length before ≡ k → (i : ℕ) →
    Ranged whole (get_or (ranges_from k xs) i nowhere).first (get_or (ranges_from k xs) i nowhere).count (get_or xs i [])
unfolding ranges_from flatten
ranged before [] whole k e l i = record { stands = record { rest = whole; splits = refl; fits = omega arith }; counts = refl }
ranged before (x ∷ xs) whole k e l zero =
    record {
      stands =
          record {
            rest = flatten xs;
            splits = ap (drop k) e ∙ drop_at before (x ++ flatten xs) k l;
            fits = omega (arith, ap length e, length-append before (x ++ flatten xs), length-append x (flatten xs));
          };
      counts = refl;
    }
ranged before (x ∷ xs) whole k e l (suc i) =
    ranged (before ++ x) xs whole (k + length x) (e ∙ sym (append_assoc before x (flatten xs))) (length-append before x ∙ ap (λ (n : ℕ). n + length x) l) i

module _ {A : Type 0} (xs : List (List A)) (i : ℕ) where
  range_at_ranged : Ranged (flatten xs) (range_at xs i).first (range_at xs i).count (get_or xs i [])
  range_at_ranged = ranged [] xs (flatten xs) 0 refl refl i

  pub range-part : take (range_at xs i).count (drop (range_at xs i).first (flatten xs)) ≡ get_or xs i []
  range-part = rw range_at_ranged.counts (stands-part (get_or xs i []) range_at_ranged.stands)

  -- a range that was read cuts its list out of all of them
  pub read_fits : {r : Range} → r ≡ range_at xs i → r.first + r.count ≤ length (flatten xs)
  read_fits e = rw e (ranged_fits range_at_ranged)

  pub read-part : {r : Range} → r ≡ range_at xs i → take (r.first + r.count - r.first) (drop r.first (flatten xs)) ≡ get_or xs i []
  read-part e = rw e (ranged_part range_at_ranged)

-- the words of a line, out of all words
pub words-part : (t : Table) (i : ℕ) → take (range_at (line_words t) i).count (drop (range_at (line_words t) i).first (words_of t)) ≡ words_at t i
unfolding words_of
words-part t i = range-part (line_words t) i

-- Rows and lines.

-- the rows of an object are laid out from line i on; so is what is inside a value
abbrev pub Laid : Table → ℕ → Rows → Type 0
Laid t i rows = Stands (entries_of t) i (entries rows)

abbrev pub LaidIn : Table → ℕ → Shape → Type 0
LaidIn t i σ = Stands (entries_of t) i (inside σ)

-- how many lines they are
abbrev pub lines_in : Rows → ℕ
lines_in rows = length (entries rows)

pub laid-object : (t : Table) (i : ℕ) (rows : Rows) → LaidIn t i (shape.object rows) → Laid t i rows
unfolding inside
laid-object t i rows s = s

pub laid-array : (t : Table) (i : ℕ) (numbering : Numbering) (most : ℕ) (σ : Shape) → LaidIn t i (shape.array numbering most σ) → LaidIn t i σ
unfolding inside
laid-array t i numbering most σ s = s

-- At a row's line: what is read there, and where the walk goes on.
pub record Step (t : Table) (i field : ℕ) (need : Need) (name : List ℕ) (σ : Shape) (rows : Rows) : Type 0 where
  pub line : line_at t i ≡ line_of (record { field = field; need = need; name = name; shape = σ })
  pub named : name_at t i ≡ name
  pub words : words_at t i ≡ shape_words σ
  pub inner : LaidIn t (i + 1) σ
  pub next : Laid t (i + 1 + (line_at t i).inside) rows
  pub ends : i + lines_in (shape.row field need name σ rows) ≡ i + 1 + (line_at t i).inside + lines_in rows

pub step : (t : Table) (i field : ℕ) (need : Need) (name : List ℕ) (σ : Shape) (rows : Rows) → Laid t i (shape.row field need name σ rows) →
    Step t i field need name σ rows
unfolding entries lines_of names_of line_words
step t i field need name σ rows s =
    let e : Entry = record { field = field; need = need; name = name; shape = σ } in
    let below = inside σ ++ entries rows in
    let after = stands_right (e ∷ []) below s in
    let line = map_at line_of (entries_of t) i no_line e (below ++ s.rest) s.splits in
    record {
      line = line;
      named = map_at (λ x. x.name) (entries_of t) i [] e (below ++ s.rest) s.splits;
      words = map_at (λ x. shape_words x.shape) (entries_of t) i [] e (below ++ s.rest) s.splits;
      inner = stands-left (inside σ) (entries rows) after;
      next = rw line (stands_right (inside σ) (entries rows) after);
      ends = rw line (omega (arith, length-append (inside σ) (entries rows)));
    }

-- where lines are left there is a row
pub record First (rows : Rows) : Type 0 where
  pub field : ℕ
  pub need : Need
  pub name : List ℕ
  pub value : Shape
  pub below : Rows
  pub is : rows ≡ shape.row field need name value below

pub first-row : (rows : Rows) → 0 < lines_in rows → First rows
unfolding entries
first-row shape.no_row h = absurd (omega arith)
first-row (shape.row field need name σ rows) h =
    record { field = field; need = need; name = name; value = σ; below = rows; is = refl }

-- where none is left there is none
pub no-row : (rows : Rows) → lines_in rows ≡ 0 → rows ≡ shape.no_row
unfolding entries
no-row shape.no_row h = refl
no-row (shape.row field need name σ rows) h = absurd (omega arith)

-- the lines of a file are those inside its shape
pub record Lined (t : Table) (file : ℕ) : Type 0 where
  pub laid : LaidIn t (file_lines t file).first (file_shape t file)
  pub count : (file_lines t file).count ≡ length (inside (file_shape t file))

inside-at : (t : Table) (i : ℕ) → get_or (map inside t) i [] ≡ inside (get_or t i unlisted)
unfolding inside
inside-at [] i = refl
inside-at (σ ∷ t) zero = refl
inside-at (σ ∷ t) (suc i) = inside-at t i

pub file_lined : (t : Table) (file : ℕ) → Lined t file
unfolding file_ranges file_shape entries_of file_entries inside
file_lined t zero = record { laid = record { rest = entries_of t; splits = refl; fits = omega arith }; count = refl }
file_lined t (suc i) =
    let r = range_at_ranged (file_entries t) i in
    record { laid = rw (← inside-at t i) r.stands; count = r.counts ∙ ap length (inside-at t i) }
