-- The rows of an object by number. Walking the lines gives the names of whatever rows are laid out there; and where no name is listed twice,
-- a row's number is found by its name and by no other.
use mathlib.Core.Bool.{Bool, true, false, not}
use mathlib.Core.List.{List, [], ◌∷◌}
use mathlib.Core.Path.{◌≡◌, refl, sym, ap, ◌∙◌}
use Prim.Native.Nat.{ℕ, zero, suc, ◌+◌, ◌-◌, ◌≤◌, ◌<◌, min}
use native.Mathlib.Omega.{arith}
use lib.ListN.{length, get_or}
use lib.Dec.{eqb, ltb}
use borrow.Author.Tests.{lt-ltb, le-ltb, ltb-true, ltb-false, not-true}
use Rattle.notation.specs.Choice.{◌and◌}
use Rattle.notation.proofs.Booleans.{by_test, true-false, and_left, and_right}
use Rattle.text.specs.Text.{same}
use Rattle.text.proofs.Laws.{same_true, same_false}
use Rattle.schema.specs.Shape as shape
use Rattle.schema.specs.Shape.{Rows, Table}
use Rattle.schema.specs.Later.{listed_in}
use Rattle.schema.specs.inner.Sound.{distinct_names, distinct_rows}
use Rattle.schema.specs.inner.Line.{line_at, name_at, number_of, number_at, entries, entries_of, laid_out}
use Rattle.schema.specs.Tables.{sheets, written}
use Rattle.schema.proofs.Walk.{Laid, lines_in, step}
use Rattle.schema.proofs.Computed.{line-count}
use Rattle.schema.proofs.Found.{name-same, name-none}
use Rattle.slots.specs.inner.Rows.{line_count, most_rows, names_in, names_at, line_names, row_named, row_line}

-- Lines.

module _ (t : Table) (end : ℕ) where
  pub names-none : (i : ℕ) → names_at t end 0 i ≡ []
  unfolding names_at
  names-none i = refl

  pub names-end : (most i : ℕ) → end ≤ i → names_at t end most i ≡ []
  unfolding names_at
  names-end zero i h = refl
  names-end (suc most) i h = rw (names_at, le-ltb i end h)

  pub names_more : (most i : ℕ) → i < end → names_at t end (suc most) i ≡ name_at t i ∷ names_at t end most (i + 1 + (line_at t i).inside)
  unfolding names_at
  names_more most i h = rw (names_at, lt-ltb i end h)

pub laid-names : (t : Table) (rows : Rows) (end most i : ℕ) → Laid t i rows → i + lines_in rows ≡ end → length (names_in rows) ≤ most
    → names_at t end most i ≡ names_in rows
unfolding names_in
laid-names t shape.no_row end most i l e h = unfold entries in names-end t end most i (omega arith)
laid-names t (shape.row field need name σ rows) end zero i l e h = absurd (omega arith)
laid-names t (shape.row field need name σ rows) end (suc most) i l e h =
    let s = step t i field need name σ rows l in
    let next : i + 1 + (line_at t i).inside + lines_in rows ≡ end = sym s.ends ∙ e in
    let here : i < end = omega arith in
    names_more t end most i here
    ∙ ap (λ (n : List ℕ). n ∷ names_at t end most (i + 1 + (line_at t i).inside)) s.named
    ∙ ap (λ (ns : List (List ℕ)). name ∷ ns) (laid-names t rows end most (i + 1 + (line_at t i).inside) s.next next (omega arith))

how_many : length (entries_of sheets) ≡ line_count
unfolding laid_out written
how_many = refl

-- of the 2.3 table, where the code ends with the last line
pub names-laid : (rows : Rows) (first count : ℕ) → Laid sheets first rows → lines_in rows ≡ count → length (names_in rows) ≤ most_rows
    → line_names first count ≡ names_in rows
names-laid rows first count l e h =
    laid-names sheets rows (min line_count (first + count)) most_rows first l (omega (arith, l.fits, how_many)) h

-- Names.

-- no name is there twice
abbrev pub Apart : List (List ℕ) → Type 0
Apart [] = Unit {0}
Apart (n ∷ names) = ((j : ℕ) → j < length names → same n (get_or names j []) ≡ false) × Apart names

unlisted-apart : (rows : Rows) (n : List ℕ) → listed_in rows n ≡ false → (j : ℕ) → j < length (names_in rows) → same n (get_or (names_in rows) j []) ≡ false
unfolding names_in listed_in
unlisted-apart shape.no_row n e j h = absurd (omega arith)
unlisted-apart (shape.row field need name σ rows) n e zero h = by_test (same n name) (λ t. true-false refl (rw (listed_in, t) at e)) (λ t. t)
unlisted-apart (shape.row field need name σ rows) n e (suc j) h =
    let ih = unlisted-apart rows n in
    by_test (same n name) (λ t. true-false refl (rw (listed_in, t) at e)) (λ t. ih (rw (listed_in, t) at e) j (omega arith))

pub distinct_apart : (rows : Rows) → distinct_rows rows ≡ true → Apart (names_in rows)
unfolding names_in distinct_rows
distinct_apart shape.no_row d = tt
distinct_apart (shape.row field need name σ rows) d =
    let fresh = and_left (not (listed_in rows name)) (distinct_names σ and distinct_rows rows) d in
    let below = and_right (not (listed_in rows name)) (distinct_names σ and distinct_rows rows) d in
    (unlisted-apart rows name (not-true (listed_in rows name) fresh), distinct_apart rows (and_right (distinct_names σ) (distinct_rows rows) below))

-- by what the first name is
module _ (x n : List ℕ) (names : List (List ℕ)) (k : ℕ) where
  pub named_here : same x n ≡ true → row_named x (n ∷ names) k ≡ k
  unfolding row_named
  named_here e = rw (row_named, e)

  pub named-later : same x n ≡ false → row_named x (n ∷ names) k ≡ row_named x names (k + 1)
  unfolding row_named
  named-later e = rw (row_named, e)

pub named_none : (x : List ℕ) (k : ℕ) → row_named x [] k ≡ most_rows
unfolding row_named
named_none x k = refl

module _ (x : List ℕ) where
  -- it is found by its name
  pub named_by : (names : List (List ℕ)) (j k : ℕ) → Apart names → j < length names → same x (get_or names j []) ≡ true → row_named x names k ≡ k + j
  named_by [] j k a h e = absurd (omega arith)
  named_by (n ∷ names) zero k a h e = named_here x n names k e ∙ omega arith
  named_by (n ∷ names) (suc j) k a h e =
      let ih = named_by names j (k + 1) a.1 (omega arith) e in
      by_test (same x n)
      (λ t. absurd (same_false n (get_or names j []) (a.0 j (omega arith)) (sym (same_true x n t) ∙ same_true x (get_or names j []) e)))
      (λ t. named-later x n names k t ∙ ih ∙ omega arith)

  -- and by no other
  named-from : (names : List (List ℕ)) (k : ℕ) → k + length names ≤ most_rows → k ≤ row_named x names k
  named-from [] k h = rw (named_none x k) (omega arith)
  named-from (n ∷ names) k h =
      let ih = named-from names (k + 1) (omega arith) in
      by_test (same x n) (λ t. rw (named_here x n names k t) (omega arith)) (λ t. rw (named-later x n names k t) (omega arith))

  pub named_else : (names : List (List ℕ)) (j k : ℕ) → k + length names ≤ most_rows → j < length names → same x (get_or names j []) ≡ false
      → k + j ≡ row_named x names k → ⊥
  named_else [] j k m h e i = absurd (omega arith)
  named_else (n ∷ names) zero k m h e i = omega (arith, named-from names (k + 1) (omega arith), named-later x n names k e)
  named_else (n ∷ names) (suc j) k m h e i =
      let ih = named_else names j (k + 1) (omega arith) (omega arith) e in
      by_test (same x n) (λ t. omega (arith, named_here x n names k t)) (λ t. ih (omega (arith, named-later x n names k t)))

-- The search for a name over the lines: the row at line i has the number `row`.

abbrev pub row_from : Table → List ℕ → (end row i : ℕ) → ℕ
row_from t x end row i = row_named x (names_at t end (most_rows - row) i) row

module _ (t : Table) (x : List ℕ) (end row i : ℕ) where
  pub row-full : most_rows ≤ row → most_rows ≡ row_from t x end row i
  row-full h = let n : most_rows - row ≡ 0 = omega arith in sym (rw (n, names-none t end i) (named_none x row))

  pub row-past : end ≤ i → most_rows ≡ row_from t x end row i
  row-past h = sym (rw (names-end t end (most_rows - row) i h) (named_none x row))

  module _ (h : row < most_rows) (l : i < end) where
    at-line : names_at t end (most_rows - row) i ≡ name_at t i ∷ names_at t end (most_rows - (row + 1)) (i + 1 + (line_at t i).inside)
    at-line = let n : most_rows - row ≡ suc (most_rows - (row + 1)) = omega arith in rw n (names_more t end (most_rows - (row + 1)) i l)

    pub row_here : same x (name_at t i) ≡ true → row ≡ row_from t x end row i
    row_here e = sym (rw at-line (named_here x (name_at t i) (names_at t end (most_rows - (row + 1)) (i + 1 + (line_at t i).inside)) row e))

    pub row_next : same x (name_at t i) ≡ false → row_from t x end (row + 1) (i + 1 + (line_at t i).inside) ≡ row_from t x end row i
    row_next e = sym (rw at-line (named-later x (name_at t i) (names_at t end (most_rows - (row + 1)) (i + 1 + (line_at t i).inside)) row e))

-- a text that is no line's name has no row
pub row-none : (t : Table) (x : List ℕ) → ((i : ℕ) → i < line_count → same x (name_at t i) ≡ false) → (end : ℕ) → end ≤ line_count → (most row i : ℕ)
    → most_rows ≡ row_named x (names_at t end most i) row
row-none t x none end h zero row i = sym (ap (λ (names : List (List ℕ)). row_named x names row) (names-none t end i) ∙ named_none x row)
row-none t x none end h (suc most) row i =
    let ih = row-none t x none end h most (row + 1) (i + 1 + (line_at t i).inside) in
    by_test (ltb i end)
    (λ l. let g : i < end = ltb-true i end l in
    sym (ap (λ (names : List (List ℕ)). row_named x names row) (names_more t end most i g)
    ∙ named-later x (name_at t i) (names_at t end most (i + 1 + (line_at t i).inside)) row (none i (omega arith)) ∙ sym ih))
    λ l. sym (ap (λ (names : List (List ℕ)). row_named x names row) (names-end t end (suc most) i (ltb-false i end l)) ∙ named_none x row)

-- By the number of a text: where it has none no line has its name, and else a line has its name where it has its number.
module _ (x : List ℕ) {n : ℕ} (e : n ≡ number_of sheets x) where
  pub unnumbered_row : (first count : ℕ) → n < 1 → most_rows ≡ row_named x (line_names first count) 0
  unnumbered_row first count h =
      row-none sheets x (λ i l. name-none i (omega (arith, line-count)) x (omega arith)) (min line_count (first + count)) (omega arith) most_rows 0 first

  pub numbered-row : {t : Bool} (i : ℕ) → 1 ≤ n → i < line_count → t ≡ eqb (number_at sheets i) n → same x (name_at sheets i) ≡ t
  numbered-row i h l f =
      sym (name-same i (omega (arith, line-count)) x (λ z. omega arith)) ∙ ap (eqb (number_at sheets i)) (sym e) ∙ sym f

-- the line of the next row
pub row-line-next : (t : Table) (i j : ℕ) → row_line t i (j + 1) ≡ row_line t i j + 1 + (line_at t (row_line t i j)).inside
unfolding row_line
row-line-next t i j = let z : j + 1 ≡ suc j = omega arith in ap (row_line t i) z

pub row-line-first : (t : Table) (i : ℕ) → row_line t i 0 ≡ i
unfolding row_line
row-line-first t i = refl
