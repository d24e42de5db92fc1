-- A table's bytes read at one line, at one number and at one place. All lines have the same number of bytes, so those of line i begin after i times that number, and so
-- with the ranges of the names behind them. A name stands where its range says, since the names are laid one after the other at the end.
use mathlib.Core.List.{List, [], ◌∷◌, ◌++◌, map, flatten, append_assoc}
use mathlib.Core.Path.{◌≡◌, refl, sym, ap, ◌∙◌}
use Prim.Native.Nat.{ℕ, zero, suc, ◌+◌, ◌*◌, ◌-◌, ◌<◌, ◌≤◌}
use native.Mathlib.Omega.{arith}
use lib.ListN.{length, get_or, set, take, drop, replicate, length-append, length-map, length-set, length-replicate, get_or-append, get_or-eq_default}
use lib.Seq.{get_or-append-add}
use Rattle.schema.specs.Shape.{Table}
use Rattle.schema.specs.inner.Names.{number_in, name_by, place_count, place_of, placed, places_of}
use Rattle.schema.specs.inner.Line.{line_of, lines_of, line_at, no_line, entries_of, names_of, each_name, numbers_of, number_at, ranges_from, nowhere, line_bytes, range_bytes, bytes_in, line_rows, range_in, ranges_at, places_at, names_from, name_ranges, name_range_by, bytes_of}
use Rattle.schema.specs.declared.Line.{Line}
use Rattle.schema.specs.declared.Range.{Range}
use Rattle.schema.proofs.Walk.{Ranged, ranged, ranged_fits, ranged_part}

-- A byte of a line, of lines that have a number each.
row-byte : (lines : List Line) (numbers : List ℕ) (rest : List ℕ) → length numbers ≡ length lines → (i j : ℕ) → i < length lines → j < line_bytes →
    get_or (flatten (line_rows lines numbers) ++ rest) (i * line_bytes + j) 0 ≡ get_or (bytes_in (get_or lines i no_line) (get_or numbers i 0)) j 0
unfolding line_rows flatten
row-byte [] numbers rest e i j h k = absurd (omega arith)
row-byte (line ∷ lines) [] rest e i j h k = absurd (omega arith)
row-byte (line ∷ lines) (number ∷ numbers) rest e zero j h k =
    let row = bytes_in line number in let below = flatten (line_rows lines numbers) ++ rest in
    let z : 0 * line_bytes + j ≡ j = omega arith in
    ap (λ (n : ℕ). get_or (row ++ below) n 0) z ∙ get_or-append row below 0 j k
row-byte (line ∷ lines) (number ∷ numbers) rest e (suc i) j h k =
    let row = bytes_in line number in let below = flatten (line_rows lines numbers) ++ rest in
    let z : suc i * line_bytes + j ≡ length row + (i * line_bytes + j) = omega arith in
    ap (λ (n : ℕ). get_or (row ++ below) n 0) z ∙ get_or-append-add row below (i * line_bytes + j) 0
    ∙ row-byte lines numbers rest (omega arith) i j (omega arith) k

rows-length : (lines : List Line) (numbers : List ℕ) → length numbers ≡ length lines → length (flatten (line_rows lines numbers)) ≡ line_bytes * length lines
unfolding line_rows flatten
rows-length [] numbers e = refl
rows-length (line ∷ lines) [] e = absurd (omega arith)
rows-length (line ∷ lines) (number ∷ numbers) e =
    let row = bytes_in line number in
    let below = rows-length lines numbers (omega arith) in
    omega (arith, length-append row (flatten (line_rows lines numbers)), below)

-- every line has a number
numbers-length : (t : Table) → length (numbers_of t) ≡ length (lines_of t)
unfolding lines_of names_of numbers_of
numbers-length t =
    length-map (names_of t) (number_in (each_name t)) ∙ length-map (entries_of t) (λ e. e.name) ∙ sym (length-map (entries_of t) line_of)

-- A byte of a range.
range-byte : (rs : List Range) (rest : List ℕ) (i j : ℕ) → i < length rs → j < range_bytes →
    get_or (flatten (map range_in rs) ++ rest) (i * range_bytes + j) 0 ≡ get_or (range_in (get_or rs i nowhere)) j 0
unfolding flatten
range-byte [] rest i j h k = absurd (omega arith)
range-byte (r ∷ rs) rest zero j h k =
    let row = range_in r in let below = flatten (map range_in rs) ++ rest in
    let z : 0 * range_bytes + j ≡ j = omega arith in
    ap (λ (n : ℕ). get_or (row ++ below) n 0) z ∙ get_or-append row below 0 j k
range-byte (r ∷ rs) rest (suc i) j h k =
    let row = range_in r in let below = flatten (map range_in rs) ++ rest in
    let z : suc i * range_bytes + j ≡ length row + (i * range_bytes + j) = omega arith in
    ap (λ (n : ℕ). get_or (row ++ below) n 0) z ∙ get_or-append-add row below (i * range_bytes + j) 0
    ∙ range-byte rs rest i j (omega arith) k

flat_length : (rs : List Range) → length (flatten (map range_in rs)) ≡ range_bytes * length rs
unfolding flatten
flat_length [] = refl
flat_length (r ∷ rs) = omega (arith, length-append (range_in r) (flatten (map range_in rs)), flat_length rs)

ranges_length : {A : Type 0} (k : ℕ) (xs : List (List A)) → length (ranges_from k xs) ≡ length xs
unfolding ranges_from
ranges_length k [] = refl
ranges_length k (x ∷ xs) = ap suc (ranges_length (k + length x) xs)

-- as many ranges as names, and that of the number 0
pub name_ranges_lem : (t : Table) → length (name_ranges t) ≡ length (each_name t) + 1
name_ranges_lem t = let e = ranges_length (names_from t) ([] ∷ each_name t) in omega arith

-- as many places as there are, whatever is put there
placed-length : (k : ℕ) (names : List (List ℕ)) (places : List ℕ) → length (placed k names places) ≡ length places
unfolding placed
placed-length k [] places = refl
placed-length k (name ∷ names) places = placed-length (k + 1) names (set places (place_of name) k) ∙ length-set places (place_of name) k

places-length : (names : List (List ℕ)) → length (places_of names) ≡ place_count
places-length names = placed-length 1 names (replicate place_count 0) ∙ length-replicate {A = ℕ} place_count 0

-- The four parts of the bytes.
module _ (t : Table) where
  rows_part : List ℕ
  rows_part = flatten (line_rows (lines_of t) (numbers_of t))

  ranges_part : List ℕ
  ranges_part = flatten (map range_in (name_ranges t))

  places_part : List ℕ
  places_part = places_of (each_name t)

  names_part : List ℕ
  names_part = flatten ([] ∷ each_name t)

  before_ranges : length rows_part ≡ ranges_at t
  unfolding rows_part
  before_ranges = rows-length (lines_of t) (numbers_of t) (numbers-length t)

  ranges_size : length ranges_part ≡ range_bytes * (length (each_name t) + 1)
  unfolding ranges_part
  ranges_size = flat_length (name_ranges t) ∙ ap (λ (n : ℕ). range_bytes * n) (name_ranges_lem t)

  in_parts : bytes_of t ≡ rows_part ++ (ranges_part ++ (places_part ++ names_part))
  unfolding bytes_of rows_part ranges_part places_part names_part
  in_parts = refl

  before-names : length (rows_part ++ (ranges_part ++ places_part)) ≡ names_from t
  unfolding places_part
  before-names =
      omega (arith, length-append rows_part (ranges_part ++ places_part), length-append ranges_part places_part, before_ranges, ranges_size, places-length (each_name t))

  -- the name of a number stands at its range
  name_ranged : (number : ℕ) → Ranged (bytes_of t) (name_range_by t number).first (name_range_by t number).count (name_by (each_name t) number)
  unfolding names_part
  name_ranged number =
      ranged (rows_part ++ (ranges_part ++ places_part)) ([] ∷ each_name t) (bytes_of t) (names_from t)
      (in_parts ∙ sym (append_assoc rows_part (ranges_part ++ places_part) names_part ∙ ap (λ (l : List ℕ). rows_part ++ l) (append_assoc ranges_part places_part names_part)))
      before-names number

  module _ (number : ℕ) {r : Range} (e : r ≡ name_range_by t number) where
    pub named-fits : r.first + r.count ≤ length (bytes_of t)
    named-fits = rw e (ranged_fits (name_ranged number))

    pub named-part : take (r.first + r.count - r.first) (drop r.first (bytes_of t)) ≡ name_by (each_name t) number
    named-part = rw e (ranged_part (name_ranged number))

  -- Bytes that were read.
  module _ {b : List ℕ} (is : b ≡ bytes_of t) where
    parted : (n : ℕ) → get_or b n 0 ≡ get_or (rows_part ++ (ranges_part ++ (places_part ++ names_part))) n 0
    parted n = ap (λ (l : List ℕ). get_or l n 0) (is ∙ in_parts)

    behind_rows : (n k : ℕ) → n ≡ ranges_at t + k → get_or b n 0 ≡ get_or (ranges_part ++ (places_part ++ names_part)) k 0
    behind_rows n k e =
        parted n
        ∙ ap (λ (m : ℕ). get_or (rows_part ++ (ranges_part ++ (places_part ++ names_part))) m 0) (e ∙ ap (λ (m : ℕ). m + k) (sym before_ranges))
        ∙ get_or-append-add rows_part (ranges_part ++ (places_part ++ names_part)) k 0

    pub place_read : (n place : ℕ) → n ≡ places_at t + place → place < place_count → get_or b n 0 ≡ get_or (places_of (each_name t)) place 0
    unfolding places_part
    place_read n place e h =
        let z : n ≡ ranges_at t + (length ranges_part + place) = omega (arith, ranges_size) in
        behind_rows n (length ranges_part + place) z
        ∙ get_or-append-add ranges_part (places_part ++ names_part) place 0
        ∙ get_or-append places_part names_part 0 place (omega (arith, places-length (each_name t)))

    module _ (number : ℕ) (h : number < length (each_name t) + 1) where
      range_at : (n j : ℕ) → n ≡ ranges_at t + (number * range_bytes + j) → j < range_bytes → get_or b n 0 ≡ get_or (range_in (name_range_by t number)) j 0
      unfolding ranges_part
      range_at n j e k =
          behind_rows n (number * range_bytes + j) e ∙ range-byte (name_ranges t) (places_part ++ names_part) number j (omega (arith, name_ranges_lem t)) k

      -- what is read of a number tells where its name stands
      pub range-read : (at : ℕ) → at ≡ ranges_at t + number * range_bytes → {first count : ℕ} → first ≡ get_or b at 0 + 256 * get_or b (at + 1) 0 → count ≡ get_or b (at + 2) 0 →
          record { first = first; count = count } ≡ name_range_by t number
      range-read at p {first} e q =
          let low = range_at at 0 (omega arith) (omega arith) in let high = range_at (at + 1) 1 (omega arith) (omega arith) in
          let f : first ≡ (name_range_by t number).first = omega (arith, e, low, high) in
          λ x. record { first = f x; count = (q ∙ range_at (at + 2) 2 (omega arith) (omega arith)) x }

    module _ (i : ℕ) (h : i < length (lines_of t)) where
      byte_at : (j : ℕ) → j < line_bytes → get_or b (i * line_bytes + j) 0 ≡ get_or (bytes_in (line_at t i) (number_at t i)) j 0
      unfolding rows_part
      byte_at j k = parted (i * line_bytes + j) ∙ row-byte (lines_of t) (numbers_of t) (ranges_part ++ (places_part ++ names_part)) (numbers-length t) i j h k

      pub inside-read : get_or b (i * line_bytes + 7) 0 ≡ (line_at t i).inside
      inside-read = byte_at 7 (omega arith)

      pub number_read : get_or b (i * line_bytes + 8) 0 ≡ number_at t i
      number_read = byte_at 8 (omega arith)

      -- what is read at a line is the line
      pub line_read : {most : ℕ} → most ≡ get_or b (i * line_bytes + 5) 0 + 256 * get_or b (i * line_bytes + 6) 0 →
          record {
            field = get_or b (i * line_bytes) 0;
            need = get_or b (i * line_bytes + 1) 0;
            value = get_or b (i * line_bytes + 2) 0;
            item = get_or b (i * line_bytes + 3) 0;
            numbering = get_or b (i * line_bytes + 4) 0;
            most = most;
            inside = get_or b (i * line_bytes + 7) 0;
          } ≡ line_at t i
      line_read {most} e =
          let z : i * line_bytes ≡ i * line_bytes + 0 = omega arith in
          let low = byte_at 5 (omega arith) in let high = byte_at 6 (omega arith) in
          let m : most ≡ (line_at t i).most = omega (arith, e, low, high) in
          λ x. record {
            field = (ap (λ (n : ℕ). get_or b n 0) z ∙ byte_at 0 (omega arith)) x;
            need = byte_at 1 (omega arith) x;
            value = byte_at 2 (omega arith) x;
            item = byte_at 3 (omega arith) x;
            numbering = byte_at 4 (omega arith) x;
            most = m x;
            inside = byte_at 7 (omega arith) x;
          }

-- past the last line there is no number, and past the last number no range
pub number_past : (t : Table) (i : ℕ) → length (lines_of t) ≤ i → 0 ≡ number_at t i
number_past t i h = sym (get_or-eq_default (numbers_of t) 0 {n = i} (omega (arith, numbers-length t)))

pub range-past : (t : Table) (number : ℕ) → length (each_name t) < number → nowhere ≡ name_range_by t number
range-past t number h = sym (get_or-eq_default (name_ranges t) nowhere {n = number} (omega (arith, name_ranges_lem t)))
