-- The words of the 2.3 table, a line a word.
use Rattle.std.specs.Prelude.{List, [], ◌∷◌, ℕ}
use Rattle.notation.specs.Ascii.{bytes}

unfoldable pub form_factors : List (List ℕ)
form_factors =
    bytes "bicycle" ∷
    bytes "cargo_bicycle" ∷
    bytes "car" ∷
    bytes "moped" ∷
    bytes "scooter" ∷
    bytes "scooter_standing" ∷
    bytes "scooter_seated" ∷
    bytes "other" ∷
    []

unfoldable pub propulsion_types : List (List ℕ)
propulsion_types =
    bytes "human" ∷
    bytes "electric_assist" ∷
    bytes "electric" ∷
    bytes "combustion" ∷
    bytes "combustion_diesel" ∷
    bytes "hybrid" ∷
    bytes "plug_in_hybrid" ∷
    bytes "hydrogen_fuel_cell" ∷
    []
