-- The members that lead to the records of a sheet, by their lines.
use Rattle.std.specs.Prelude.{false, List, [], ◌∷◌, map, ◌≡◌, ℕ, take, None, Some}
use Rattle.schema.specs.Shape.{Shape}
use Rattle.schema.specs.Tables.{sheets, sheet_shape}
use Rattle.schema.specs.Records.{way_in, has_records}
use Rattle.schema.specs.inner.Line.{name_at}
use Rattle.schema.specs.declared.ways.Steps.{Steps}

-- the names of the members, in a file of this shape; none where it has no records
unfoldable pub way_names : Shape → List (List ℕ)
way_names σ = elim (way_in σ) [ None ↦ [] | Some w ↦ map (λ k. k.name) w.keys ]

-- their lines, as many of three as there are
abbrev pub step_lines : Steps → List ℕ
step_lines r = take r.count (r.first ∷ r.second ∷ r.third ∷ [])

-- the steps lead to the records of a sheet; there are none just where it has no records
pub record LeadTo (sheet : ℕ) (r : Steps) : Type 0 where
  pub names : way_names (sheet_shape sheet) ≡ map (name_at sheets) (step_lines r)
  pub none : r.count ≡ 0 → has_records sheet ≡ false
