-- What a line's letters say is what the table says: they name the sort of a scalar, with its words, and tell scalars, arrays and objects
-- apart. So code that goes by a line's letters goes by the row's shape.
use mathlib.Core.Bool.{Bool, true, false}
use mathlib.Core.List.{List, [], ◌∷◌}
use mathlib.Core.Path.{◌≡◌, refl, sym, ap, ◌∙◌}
use Prim.Native.Char.{code}
use Prim.Native.Nat.{ℕ}
use native.Mathlib.Omega.{arith}
use lib.Dec.{eqb}
use Rattle.notation.specs.Choice.{◌⇒◌else◌}
use Rattle.notation.proofs.Booleans.{true-false}
use Rattle.schema.specs.Shape as shape
use Rattle.schema.specs.Shape.{Shape, Rows, Sort, Numbering}
use Rattle.schema.specs.inner.Line.{sort_letter, sort_words, value_letter, shape_words}

abbrev first_of : List (List ℕ) → List ℕ
first_of [] = []
first_of (x ∷ words) = x

-- the sort of a letter; the words are an enum's, or the one text
unfoldable pub sort_from : ℕ → List (List ℕ) → Sort
sort_from letter words =
    eqb letter (code "T") ⇒ shape.timestamp else
    eqb letter (code "N") ⇒ shape.integer else
    eqb letter (code "F") ⇒ shape.amount else
    eqb letter (code "%") ⇒ shape.portion else
    eqb letter (code "y") ⇒ shape.latitude else
    eqb letter (code "x") ⇒ shape.longitude else
    eqb letter (code "z") ⇒ shape.any_number else
    eqb letter (code "m") ⇒ shape.money else
    eqb letter (code "p") ⇒ shape.price else
    eqb letter (code "B") ⇒ shape.boolean else
    eqb letter (code "S") ⇒ shape.text else
    eqb letter (code "i") ⇒ shape.id else
    eqb letter (code "c") ⇒ shape.currency else
    eqb letter (code "d") ⇒ shape.date else
    eqb letter (code "=") ⇒ shape.exactly (first_of words) else shape.word words

pub sort_from_lem : (sort : Sort) → sort_from (sort_letter sort) (sort_words sort) ≡ sort
unfolding sort_from
sort_from_lem shape.timestamp = refl
sort_from_lem shape.integer = refl
sort_from_lem shape.amount = refl
sort_from_lem shape.portion = refl
sort_from_lem shape.latitude = refl
sort_from_lem shape.longitude = refl
sort_from_lem shape.any_number = refl
sort_from_lem shape.money = refl
sort_from_lem shape.price = refl
sort_from_lem shape.boolean = refl
sort_from_lem shape.text = refl
sort_from_lem shape.id = refl
sort_from_lem shape.currency = refl
sort_from_lem shape.date = refl
sort_from_lem (shape.exactly s) = refl
sort_from_lem (shape.word words) = refl

-- no sort's letter is that of an array, of an object or of nothing
sortal : ℕ → Bool
sortal letter =
    eqb letter (code "[") ⇒ false else
    eqb letter (code "{") ⇒ false else
    eqb letter (code ".") ⇒ false else true

sort_sortal : (sort : Sort) → sortal (sort_letter sort) ≡ true
unfolding sortal
sort_sortal shape.timestamp = refl
sort_sortal shape.integer = refl
sort_sortal shape.amount = refl
sort_sortal shape.portion = refl
sort_sortal shape.latitude = refl
sort_sortal shape.longitude = refl
sort_sortal shape.any_number = refl
sort_sortal shape.money = refl
sort_sortal shape.price = refl
sort_sortal shape.boolean = refl
sort_sortal shape.text = refl
sort_sortal shape.id = refl
sort_sortal shape.currency = refl
sort_sortal shape.date = refl
sort_sortal (shape.exactly s) = refl
sort_sortal (shape.word words) = refl

pub record IsArray (σ : Shape) : Type 0 where
  pub numbering : Numbering
  pub most : ℕ
  pub item : Shape
  pub is : σ ≡ shape.array numbering most item

pub record IsObject (σ : Shape) : Type 0 where
  pub rows : Rows
  pub is : σ ≡ shape.object rows

pub array-letter : (σ : Shape) → value_letter σ ≡ code "[" → IsArray σ
unfolding sortal
array-letter shape.unlisted e = absurd (omega arith)
array-letter (shape.scalar sort) e = true-false (sym (ap sortal e) ∙ sort_sortal sort) refl
array-letter (shape.array numbering most σ) e = record { numbering = numbering; most = most; item = σ; is = refl }
array-letter (shape.object rows) e = absurd (omega arith)

pub object-letter : (σ : Shape) → value_letter σ ≡ code "{" → IsObject σ
unfolding sortal
object-letter shape.unlisted e = absurd (omega arith)
object-letter (shape.scalar sort) e = true-false (sym (ap sortal e) ∙ sort_sortal sort) refl
object-letter (shape.array numbering most σ) e = absurd (omega arith)
object-letter (shape.object rows) e = record { rows = rows; is = refl }

pub scalar-letter : (σ : Shape) → (value_letter σ ≡ code "[" → ⊥) → (value_letter σ ≡ code "{" → ⊥) → (value_letter σ ≡ code "." → ⊥) →
    σ ≡ shape.scalar (sort_from (value_letter σ) (shape_words σ))
scalar-letter shape.unlisted a o n = absurd (n refl)
scalar-letter (shape.scalar sort) a o n = ap shape.scalar (sym (sort_from_lem sort))
scalar-letter (shape.array numbering most σ) a o n = absurd (a refl)
scalar-letter (shape.object rows) a o n = absurd (o refl)
