-- Every object of the 2.3 table has a slot for each of its rows: a test that is computed over the files, and that holds of what is inside where it
-- holds of a shape.
use mathlib.Core.Bool.{Bool, true}
use mathlib.Core.List.{List, [], ◌∷◌}
use mathlib.Core.Path.{◌≡◌, refl}
use Prim.Native.Nat.{ℕ, zero, suc, ◌≤◌}
use lib.Dec.{leb}
use lib.ListN.{length, get_or}
use borrow.Author.Tests.{leb-true}
use Rattle.notation.specs.Choice.{◌and◌}
use Rattle.notation.proofs.Booleans.{and_left, and_right}
use Rattle.schema.specs.Shape as shape
use Rattle.schema.specs.Shape.{Shape, Rows, Need, Numbering, Table, unlisted, file_shape}
use Rattle.schema.specs.Tables.{sheets, written, sheet_shape}
use Rattle.slots.specs.inner.Rows.{most_rows, names_in, few_in, few_below}

all-few : Table → Bool
all-few [] = true
all-few (σ ∷ t) = few_in σ and all-few t

few-at : (t : Table) → all-few t ≡ true → (i : ℕ) → few_in (get_or t i unlisted) ≡ true
unfolding all-few few_in
few-at [] e i = refl
few-at (σ ∷ t) e zero = and_left (few_in σ) (all-few t) e
few-at (σ ∷ t) e (suc i) = few-at t (and_right (few_in σ) (all-few t) e) i

pub few : (file : ℕ) → few_in (sheet_shape file) ≡ true
unfolding file_shape all-few few_in names_in written
few file = few-at (unlisted ∷ sheets) refl file

pub few-array : (numbering : Numbering) (most : ℕ) (σ : Shape) → few_in (shape.array numbering most σ) ≡ true → few_in σ ≡ true
unfolding few_in
few-array numbering most σ e = e

module _ (rows : Rows) (e : few_in (shape.object rows) ≡ true) where
  pub few-rows : length (names_in rows) ≤ most_rows
  unfolding few_in
  few-rows = leb-true (length (names_in rows)) most_rows (and_left (leb (length (names_in rows)) most_rows) (few_below rows) e)

  pub few-object : few_below rows ≡ true
  unfolding few_in
  few-object = and_right (leb (length (names_in rows)) most_rows) (few_below rows) e

module _ (field : ℕ) (need : Need) (name : List ℕ) (σ : Shape) (rows : Rows) (e : few_below (shape.row field need name σ rows) ≡ true) where
  pub few-value : few_in σ ≡ true
  unfolding few_in
  few-value = and_left (few_in σ) (few_below rows) e

  pub few-below : few_below rows ≡ true
  unfolding few_in
  few-below = and_right (few_in σ) (few_below rows) e
