-- Rings as lists of points, each coordinate a whole number of millionths, degrees taken as a plane: document 01, "Zones" and field 73's last rules.
-- Whole numbers of any size; nothing here knows of machine words.
use Rattle.std.specs.Prelude.{Bool, false, not, List, [], ◌∷◌, ℤ, pos, ◌+ℤ◌, ◌-ℤ◌, ◌*ℤ◌}
use Rattle.std.specs.Int.Signed.{le_z, lt_z}
use Rattle.notation.specs.Choice.{◌and◌}

pub record Point : Type 0 where
  pub lon : ℤ
  pub lat : ℤ

abbrev pub equal : ℤ → ℤ → Bool
equal a b = le_z a b and le_z b a

unfoldable pub same_point : Point → Point → Bool
same_point a b = equal a.lon b.lon and equal a.lat b.lat

-- what an edge adds to the area sum: x·y' − x'·y
unfoldable pub turn : Point → Point → ℤ
turn a b = a.lon *ℤ b.lat -ℤ b.lon *ℤ a.lat

-- the area sum, over the edges from each point to the next
unfoldable pub area_sum : List Point → ℤ
area_sum [] = pos 0
area_sum (a ∷ []) = pos 0
area_sum (a ∷ b ∷ l) = turn a b +ℤ area_sum (b ∷ l)

unfoldable pub clockwise : List Point → Bool
clockwise l = lt_z (area_sum l) (pos 0)

-- the last point is the first again
unfoldable pub ends_at : Point → Point → List Point → Bool
ends_at a b [] = same_point a b
ends_at a b (c ∷ l) = ends_at a c l

-- a ring closes and has an area
unfoldable pub sound : List Point → Bool
sound [] = false
sound (a ∷ l) = ends_at a a l and not (equal (area_sum (a ∷ l)) (pos 0))
