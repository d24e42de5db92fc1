-- What a table must keep to be of use, as tests that are computed over it: no object lists a name twice, no two rows of a file have one
-- number, and the fields of an inner object come after the field that holds it.
use Rattle.std.specs.Prelude.{Bool, true, not, List, [], ◌∷◌, ◌++◌, ℕ, ltb}
use Rattle.notation.specs.Choice.{◌and◌}
use Rattle.schema.specs.Shape as shape
use Rattle.schema.specs.Shape.{Shape, Rows}
use Rattle.schema.specs.Later.{listed_in}

unfoldable mutual
  pub distinct_names : Shape → Bool
  distinct_names shape.unlisted = true
  distinct_names (shape.scalar sort) = true
  distinct_names (shape.array numbering most σ) = distinct_names σ
  distinct_names (shape.object rows) = distinct_rows rows

  pub distinct_rows : Rows → Bool
  distinct_rows shape.no_row = true
  distinct_rows (shape.row field need name σ rows) = not (listed_in rows name) and distinct_names σ and distinct_rows rows

-- the numbers of all rows of a shape, those of inner objects behind their container's
unfoldable mutual
  pub fields_of : Shape → List ℕ
  fields_of shape.unlisted = []
  fields_of (shape.scalar sort) = []
  fields_of (shape.array numbering most σ) = fields_of σ
  fields_of (shape.object rows) = fields_in rows

  pub fields_in : Rows → List ℕ
  fields_in shape.no_row = []
  fields_in (shape.row field need name σ rows) = field ∷ (fields_of σ ++ fields_in rows)

-- each is above the one before
unfoldable pub rising : List ℕ → Bool
rising [] = true
rising (a ∷ []) = true
rising (a ∷ b ∷ l) = ltb a b and rising (b ∷ l)
