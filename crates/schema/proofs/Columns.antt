-- A list of ranges read at one place, column by column.
use mathlib.Core.List.{List, map}
use mathlib.Core.Path.{◌≡◌, ◌∙◌}
use Prim.Native.Nat.{ℕ}
use lib.ListN.{get_or, get_or-map}
use Rattle.schema.specs.inner.Line.{nowhere}
use Rattle.schema.specs.declared.Range.{Range}

pub range_columns : (rs : List Range) (i : ℕ) {first count : ℕ} →
    first ≡ get_or (map (λ r. r.first) rs) i 0 → count ≡ get_or (map (λ r. r.count) rs) i 0 →
    record { first = first; count = count } ≡ get_or rs i nowhere
range_columns rs i p q =
    λ k. record {
      first = (p ∙ get_or-map (λ (r : Range). r.first) rs i nowhere) k;
      count = (q ∙ get_or-map (λ (r : Range). r.count) rs i nowhere) k;
    }
