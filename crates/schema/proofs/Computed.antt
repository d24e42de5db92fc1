-- What holds of the 2.3 table by tests that are computed over the whole of it, and the tests as facts of each file: no object lists a name
-- twice, and the field numbers rise from line to line, so that no two are equal and an inner object's are above their container's.
use mathlib.Core.Bool.{Bool, true}
use mathlib.Core.List.{List, [], ◌∷◌, flatten}
use mathlib.Core.Path.{◌≡◌, refl}
use Prim.Native.Nat.{ℕ, zero, suc, ◌≤◌, ◌<◌}
use native.Mathlib.Omega.{arith}
use lib.Dec.{ltb}
use lib.ListN.{length, get_or}
use borrow.Author.Tests.{ltb-true}
use Rattle.notation.specs.Choice.{◌and◌}
use Rattle.notation.proofs.Booleans.{and_left, and_right}
use Rattle.text.specs.Text.{same}
use Rattle.schema.specs.Shape.{Shape, Table, unlisted, file_shape}
use Rattle.schema.specs.Tables.{sheets, written, sheet_shape}
use Rattle.schema.specs.Later.{listed_in}
use Rattle.schema.specs.inner.Sound.{distinct_names, fields_of, rising}
use Rattle.schema.specs.inner.Names.{naming}
use Rattle.schema.specs.inner.Line.{lines_of, each_name, bytes_of, words_of, laid_out}

-- A test that every file passes, and the empty shape too, is passed by the shape of any number.
unfoldable pub every : (Shape → Bool) → Table → Bool
every test [] = true
every test (σ ∷ t) = test σ and every test t

every_at : (test : Shape → Bool) (t : Table) → every test t ≡ true → test unlisted ≡ true → (i : ℕ) → test (get_or t i unlisted) ≡ true
unfolding every
every_at test [] e u i = u
every_at test (σ ∷ t) e u zero = and_left (test σ) (every test t) e
every_at test (σ ∷ t) e u (suc i) = every_at test t (and_right (test σ) (every test t) e) u i

pub every_file : (test : Shape → Bool) (t : Table) → every test t ≡ true → test unlisted ≡ true → (file : ℕ) → test (file_shape t file) ≡ true
unfolding file_shape
every_file test t e u zero = u
every_file test t e u (suc i) = every_at test t e u i

-- a number that is no file's has the empty shape
past_all : (t : Table) (i : ℕ) → length t ≤ i → get_or t i unlisted ≡ unlisted
past_all [] i h = refl
past_all (σ ∷ t) zero h = absurd (omega arith)
past_all (σ ∷ t) (suc i) h = past_all t i (omega arith)

pub no-file : (t : Table) (file : ℕ) → (1 ≤ file → file ≤ length t → ⊥) → file_shape t file ≡ unlisted
unfolding file_shape
no-file t zero h = refl
no-file t (suc i) h = past_all t i (omega (arith, h (omega arith)))

pub distinct : (file : ℕ) → distinct_names (sheet_shape file) ≡ true
unfolding every written distinct_names listed_in same
distinct file = every_file distinct_names sheets refl refl file

rising-file : (file : ℕ) → rising (fields_of (sheet_shape file)) ≡ true
unfolding every written rising fields_of
rising-file file = every_file (λ σ. rising (fields_of σ)) sheets refl refl file

-- In a rising list what stands later is larger.
rising-below : (a : ℕ) (l : List ℕ) → rising (a ∷ l) ≡ true → (i : ℕ) → i < length l → a < get_or l i 0
unfolding rising
rising-below a [] e i h = absurd (omega arith)
rising-below a (b ∷ l) e zero h = ltb-true a b (and_left (ltb a b) (rising (b ∷ l)) e)
rising-below a (b ∷ l) e (suc i) h =
    let p = ltb-true a b (and_left (ltb a b) (rising (b ∷ l)) e) in
    let q = rising-below b l (and_right (ltb a b) (rising (b ∷ l)) e) i (omega arith) in
    omega arith

rising-tail : (a : ℕ) (l : List ℕ) → rising (a ∷ l) ≡ true → rising l ≡ true
unfolding rising
rising-tail a [] e = refl
rising-tail a (b ∷ l) e = and_right (ltb a b) (rising (b ∷ l)) e

pub rising-apart : (l : List ℕ) → rising l ≡ true → (i j : ℕ) → i < j → j < length l → get_or l i 0 < get_or l j 0
rising-apart [] e i j h k = absurd (omega arith)
rising-apart (a ∷ l) e zero zero h k = absurd (omega arith)
rising-apart (a ∷ l) e zero (suc j) h k = rising-below a l e j (omega arith)
rising-apart (a ∷ l) e (suc i) zero h k = absurd (omega arith)
rising-apart (a ∷ l) e (suc i) (suc j) h k = rising-apart l (rising-tail a l e) i j (omega arith) (omega arith)

-- the field numbers of a file, in preorder
pub fields_rise : (file i j : ℕ) → i < j → j < length (fields_of (sheet_shape file)) →
    get_or (fields_of (sheet_shape file)) i 0 < get_or (fields_of (sheet_shape file)) j 0
fields_rise file i j h k = rising-apart (fields_of (sheet_shape file)) (rising-file file) i j h k

-- how many lines and names there are, and how many bytes; and those of all words
pub line-count : length (lines_of sheets) ≡ 109
unfolding laid_out written
line-count = refl

pub name-count : length (each_name sheets) ≡ 61
unfolding laid_out naming written
name-count = refl

pub table-length : length (bytes_of sheets) ≡ 2065
unfolding laid_out naming written
table-length = refl

pub words-length : length (flatten (words_of sheets)) ≡ 223
unfolding laid_out written
words-length = refl
