-- Names by number, and how a name's number is found: a few bytes of a name give its place, and at a name's place its number stands.
use Rattle.std.specs.Prelude.{List, [], ◌∷◌, ℕ, ◌+◌, ◌*◌, ◌/◌, ◌%◌, eqb, length, get_or, set, replicate}
use Rattle.notation.specs.Choice.{◌⇒◌else◌}
use Rattle.text.specs.Text.{same}

-- the number of x among names that are numbered from k on; 0 where it is none of them
unfoldable pub number_from : ℕ → List (List ℕ) → List ℕ → ℕ
number_from k [] x = 0
number_from k (name ∷ names) x = same x name ⇒ k else number_from (k + 1) names x

abbrev pub number_in : List (List ℕ) → List ℕ → ℕ
number_in names x = number_from 1 names x

-- the name of a number; nothing where no name has it
abbrev pub name_by : List (List ℕ) → ℕ → List ℕ
name_by names number = get_or ([] ∷ names) number []

-- each of several names once, in the order in which they first stand, without those that were met before
unfoldable pub once_each : (met names : List (List ℕ)) → List (List ℕ)
once_each met [] = []
once_each met (name ∷ names) = eqb (number_in met name) 0 ⇒ name ∷ once_each (name ∷ met) names else once_each met names

-- how many places there are, and what the length and each byte that is looked at count
abbrev pub place_count : ℕ
place_count = 256

abbrev pub length_weight : ℕ
length_weight = 1

abbrev pub early_weight : ℕ
early_weight = 34

abbrev pub middle_weight : ℕ
middle_weight = 9

abbrev pub late_weight : ℕ
late_weight = 1

-- the place of a name
unfoldable pub place_of : List ℕ → ℕ
place_of x =
    (length x * length_weight + get_or x ((length x + 2) / 4) 0 * early_weight + get_or x (length x / 2) 0 * middle_weight + get_or x (3 * length x / 4) 0 * late_weight)
    % place_count

-- places with the numbers of names, from k on, and what is at the others
unfoldable pub placed : ℕ → List (List ℕ) → List ℕ → List ℕ
placed k [] places = places
placed k (name ∷ names) places = placed (k + 1) names (set places (place_of name) k)

abbrev pub places_of : List (List ℕ) → List ℕ
places_of names = placed 1 names (replicate place_count 0)

-- names all that names are numbered and placed with
unfoldable pub naming : Unit {0}
unfolding same number_from once_each place_of placed
naming = tt
