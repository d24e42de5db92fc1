-- The code's columns have the names of each sheet's way, by computation; past the last sheet there is no way on either side.
-- the lines of the way's members, in a shape whose rows begin at a line; those of each sheet, and of none before the first
use mathlib.Core.Bool.{Bool, true, false}
use mathlib.Core.List.{List, [], ◌∷◌, map}
use mathlib.Core.Path.{◌≡◌, refl, sym, ap, ◌∙◌}
use Prim.Native.Nat.{ℕ, ◌+◌}
use native.Mathlib.Omega.{arith}
use lib.Dec.{ltb}
use lib.ListN.{length, take, get_or, get_or-map}
use borrow.Author.Tests.{ltb-true}
use Rattle.notation.specs.Choice.{◌⇒◌else◌}
use Rattle.notation.specs.Given.{given}
use Rattle.notation.proofs.Booleans.{by_test}
use Rattle.schema.specs.Shape as shape
use Rattle.schema.specs.Shape.{Shape, Rows, Table, unlisted, file_shape}
use Rattle.schema.specs.Tables.{sheets, sheet_shape, written}
use Rattle.schema.specs.Records.{way_in, has_records}
use Rattle.schema.specs.inner.Line.{inside, name_at, laid_out}
use Rattle.schema.specs.inner.Ways.{way_names, LeadTo}
use Rattle.schema.proofs.Computed.{every, every_file, no-file}
use Rattle.schema.proofs.ways.steps_to.Goals as goal
use Rattle.std.specs.Prelude.{None, Some}

unfoldable mutual
  steps : Shape → ℕ → List ℕ
  steps shape.unlisted i = []
  steps (shape.scalar sort) i = []
  steps (shape.array numbering most σ) i = []
  steps (shape.object rows) i = steps_through rows i

  steps_through : Rows → ℕ → List ℕ
  steps_through shape.no_row i = []
  steps_through (shape.row field need name σ rows) i = elim (way_in σ) [ None ↦ steps_through rows (i + 1 + length (inside σ)) | Some w ↦ i ∷ steps σ (i + 1) ]

unfoldable steps_from : ℕ → Table → List (List ℕ)
steps_from i [] = []
steps_from i (σ ∷ t) = steps σ i ∷ steps_from (i + length (inside σ)) t

unfoldable all_steps : List (List ℕ)
unfolding steps_from steps
all_steps = [] ∷ steps_from 0 sheets

-- the names of each sheet's way, and of none before the first
unfoldable all_names : List (List (List ℕ))
all_names = map way_names (unlisted ∷ sheets)

at_sheet : (n : ℕ) → way_names (sheet_shape n) ≡ get_or all_names n []
unfolding file_shape way_names way_in all_names
at_sheet n = sym (get_or-map way_names (unlisted ∷ sheets) n unlisted)

-- where there is a way it has members
unfoldable stepped : Shape → Bool
stepped σ = given (way_in σ) ⇒ ltb 0 (length (way_names σ)) else true

sheet_stepped : (n : ℕ) → stepped (sheet_shape n) ≡ true
unfolding every stepped way_names way_in written
sheet_stepped n = every_file stepped sheets refl refl n

unstepped : (n : ℕ) → way_names (sheet_shape n) ≡ [] → has_records n ≡ false
unfolding stepped
unstepped n e = by_test (has_records n) (λ t. absurd (omega (arith, ap length e, ltb-true 0 (length (way_names (sheet_shape n))) (some-way t)))) (λ t. t)
  where
    some-way : has_records n ≡ true → ltb 0 (length (way_names (sheet_shape n))) ≡ true
    some-way t = ap (λ (b : Bool). b ⇒ ltb 0 (length (way_names (sheet_shape n))) else true) (sym t) ∙ sheet_stepped n

-- as many of the first three of a list as it has
abbrev three : List ℕ → List ℕ
three l = take (length l) (get_or l 0 0 ∷ get_or l 1 0 ∷ get_or l 2 0 ∷ [])

-- the names are those of these lines, of which no way has more than three
same_names : all_names ≡ map (λ l. map (name_at sheets) (three l)) all_steps
unfolding laid_out written way_names way_in all_names all_steps
same_names = refl

module _ (n : ℕ) {c x y z : ℕ} (a : c ≡ get_or (map length all_steps) n 0) (b : x ≡ get_or (map (λ l. get_or l 0 0) all_steps) n 0)
    (d : y ≡ get_or (map (λ l. get_or l 1 0) all_steps) n 0) (e : z ≡ get_or (map (λ l. get_or l 2 0) all_steps) n 0) where
  abbrev way : List ℕ
  way = get_or all_steps n []

  names : way_names (sheet_shape n) ≡ map (name_at sheets) (take c (x ∷ y ∷ z ∷ []))
  names =
      at_sheet n ∙ ap (λ (l : List (List (List ℕ))). get_or l n []) same_names ∙ get_or-map (λ (l : List ℕ). map (name_at sheets) (three l)) all_steps n []
      ∙ ap (λ (m : ℕ). map (name_at sheets) (take m (get_or way 0 0 ∷ get_or way 1 0 ∷ get_or way 2 0 ∷ []))) (sym (a ∙ get_or-map length all_steps n []))
      ∙ ap (λ (l : List ℕ). map (name_at sheets) (take c l)) (λ q. sym (b ∙ get_or-map (λ (l : List ℕ). get_or l 0 0) all_steps n []) q
      ∷ sym (d ∙ get_or-map (λ (l : List ℕ). get_or l 1 0) all_steps n []) q ∷ sym (e ∙ get_or-map (λ (l : List ℕ). get_or l 2 0) all_steps n []) q ∷ [])

  leading : LeadTo n (record { count = c; first = x; second = y; third = z })
  leading = record { names = names; none = λ o. unstepped n (names ∙ ap (λ (m : ℕ). map (name_at sheets) (take m (x ∷ y ∷ z ∷ []))) o) }

pub returns-then-i-ge9 : goal.returns-then-i-ge9
unfolding written way_names way_in
returns-then-i-ge9 c =
    let n = c.args.sheet in
    let e : sheet_shape n ≡ unlisted = no-file sheets n (λ h i. omega (arith, i, c.if-i-ge9.true)) in
    record { names = ap way_names e; none = λ z. ap (λ (σ : Shape). given (way_in σ)) e }

pub returns : goal.returns
unfolding laid_out written way_in all_steps
returns c =
    rw (← c.from-i.ensures) (leading c.from-i.result c.from.ensures c.from-2.ensures c.from-3.ensures c.from-4.ensures)
