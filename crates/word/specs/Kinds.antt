-- The kinds of document 01, "Kinds", by name.
use Rattle.std.specs.Prelude.{ℕ}

-- the file is too long
abbrev pub too_long : ℕ
too_long = 1

-- the file is no JSON text
abbrev pub not_json : ℕ
not_json = 2

-- a surrogate escape without its other half
abbrev pub unpaired : ℕ
unpaired = 3

-- a bracket past the deepest level
abbrev pub too_deep : ℕ
too_deep = 4

-- a listed name twice in one object
abbrev pub name_twice : ℕ
name_twice = 5

-- a required member is not there
abbrev pub missing : ℕ
missing = 6

-- a value of the wrong type
abbrev pub wrong_type : ℕ
wrong_type = 7

-- a number that is not in the form of listed numbers
abbrev pub number_form : ℕ
number_form = 8

-- a value out of range, or none of those listed
abbrev pub out_of_range : ℕ
out_of_range = 9

-- too many items
abbrev pub too_many : ℕ
too_many = 10

-- a polygon, ring or position that is none
abbrev pub bad_ring : ℕ
bad_ring = 11

-- an id used before in its file
abbrev pub id_twice : ℕ
id_twice = 12

-- a reference to nothing
abbrev pub dangling : ℕ
dangling = 13

-- a condition that is not met
abbrev pub condition : ℕ
condition = 14

-- a sum that differs
abbrev pub sum_differs : ℕ
sum_differs = 15
