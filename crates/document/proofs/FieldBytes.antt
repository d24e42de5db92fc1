-- The fields of a picked object, by the bytes of the object: where a row of the table lists the field, its member's bytes hold it.
use mathlib.Core.List.{List}
use mathlib.Core.Path.{◌≡◌}
use Prim.Native.Nat.{ℕ}
use native.Mathlib.Omega.{arith}
use lib.Dec.{eqb}
use borrow.Author.Tests.{eqb-true}
use Rattle.notation.specs.Choice.{◌⇒◌else◌}
use Rattle.notation.proofs.Booleans.{by_test}
use Rattle.json_text.specs.Tree.{Json}
use Rattle.walk.specs.Part.{Whole}
use Rattle.schema.specs.Shape as shape
use Rattle.schema.specs.Shape.{Shape, Rows, Sort, Numbering}
use Rattle.schema.specs.Pick.{pick}
use Rattle.document.specs.Document.{field, field_items, given, spelling, text, truth}
use Rattle.document.proofs.Rows.{Lists, here, below}
use Rattle.document.specs.inner.Items.{picked_items}
use Rattle.document.specs.inner.Values.{member_of, spelled_by, text_by, truth_by, array_by, there_by}
use Rattle.document.proofs.Values.{member-holds, holds-there, holds_spelled, holds_text, holds-truth, holds-items}

-- the first row of a field, found by computing
pub data Row : Type 0 where
  nowhere : Row
  row : List ℕ → Shape → Row

unfoldable pub row_of : ℕ → Rows → Row
row_of f shape.no_row = nowhere
row_of f (shape.row g need n τ rows) = eqb f g ⇒ row n τ else row_of f rows

row-name : {n m : List ℕ} {σ τ : Shape} → row n σ ≡ row m τ → n ≡ m
row-name e = cc

row-shape : {n m : List ℕ} {σ τ : Shape} → row n σ ≡ row m τ → σ ≡ τ
row-shape e = cc

no-row : {A : Type 0} {n : List ℕ} {σ : Shape} → nowhere ≡ row n σ → A
no-row e = let z : ◌≡◌ {A = ℕ} 0 1 = cc in absurd (omega arith)

listed_in : (f : ℕ) (rows : Rows) {name : List ℕ} {σ : Shape} → row_of f rows ≡ row name σ → Lists f name σ rows
unfolding row_of
listed_in f shape.no_row e = no-row e
listed_in f (shape.row g need n τ rows) {name} {σ} e =
    by_test (eqb f g)
    (λ t. let i : row n τ ≡ row name σ = rw (row_of, t) at e in rw (← eqb-true f g t, ← row-name i, ← row-shape i) here)
    (λ u. below u (listed_in f rows (rw (row_of, u) at e)))

pub listed : {f : ℕ} {rows : Rows} {name : List ℕ} {σ : Shape} → row_of f rows ≡ row name σ → Lists f name σ rows
listed e = listed_in _ _ e

-- a field of one value
module _ {f : ℕ} {name : List ℕ} {sort : Sort} {rows : Rows} (l : Lists f name (shape.scalar sort) rows) {p : List ℕ} {x : Json} (w : Whole p x) where
  pub field-spelled : spelled_by (member_of p name) ≡ spelling f (pick (shape.object rows) x)
  unfolding spelling
  field-spelled = holds_spelled sort (member_of p name) (field f (pick (shape.object rows) x)) (member-holds l p x w)

  pub field-text : text_by (member_of p name) ≡ text f (pick (shape.object rows) x)
  unfolding text
  field-text = holds_text sort (member_of p name) (field f (pick (shape.object rows) x)) (member-holds l p x w)

  pub field-given : there_by (member_of p name) ≡ given (field f (pick (shape.object rows) x))
  field-given = holds-there (shape.scalar sort) (member_of p name) (field f (pick (shape.object rows) x)) (member-holds l p x w)

  pub field-truth : truth_by (member_of p name) ≡ truth f (pick (shape.object rows) x)
  unfolding truth
  field-truth = holds-truth sort (member_of p name) (field f (pick (shape.object rows) x)) (member-holds l p x w)

-- a field that is an array, by its items
pub field-items : {f : ℕ} {name : List ℕ} {numbering : Numbering} {most : ℕ} {σ : Shape} {rows : Rows} → Lists f name (shape.array numbering most σ) rows
    → {p : List ℕ} {x : Json} → Whole p x → picked_items σ (array_by (member_of p name)) ≡ field_items f (pick (shape.object rows) x)
unfolding field_items
field-items {f} {name} {numbering} {most} {σ} {rows} l {p} {x} w =
    holds-items numbering most σ (member_of p name) (field f (pick (shape.object rows) x)) (member-holds l p x w)
