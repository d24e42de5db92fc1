-- Where the records of a file stand, and which field is their own id: both are read off the file's shape, of any table.
use Rattle.std.specs.Prelude.{Bool, ℕ, Option, None, Some}
use mathlib.Core.List.{List, [], ◌∷◌, flatten, List-discrete}
use Rattle.std.proofs.Math.Decide.{ℕ_discrete}
use Rattle.notation.specs.Given.{given}
use Rattle.schema.specs.Shape.{Shape, Rows, Sort-discrete, id, unlisted, scalar, array, object, no_row, row, records, subs, outer, positions, file_shape}
use Rattle.schema.specs.Table23.{table23, file, listing, vehicle_type, station, status, bike, plan, zone, zones, system, region}
use Rattle.schema.specs.Tables.{tables, sheets, sheet_shape}
use Rattle.schema.specs.Later.{rows_of}

-- a listed member: the number of its field, and its name
pub record Key : Type 0 where
  pub field : ℕ
  pub name : List ℕ

-- the members that lead from a file's top value to the array of its records, and the shape of a record
pub record Way : Type 0 where
  pub keys : List Key
  pub item : Shape

-- to the array that is numbered by records, through the first row that leads to one
unfoldable mutual
  pub way_in : Shape → Option Way
  way_in unlisted = None
  way_in (scalar sort) = None
  way_in (array records most σ) = Some (record { keys = []; item = σ })
  way_in (array subs most σ) = None
  way_in (array outer most σ) = None
  way_in (array positions most σ) = None
  way_in (object rows) = way_through rows

  pub way_through : Rows → Option Way
  way_through no_row = None
  way_through (row field need name σ rows) =
      elim (way_in σ) [
        | None ↦ way_through rows
        | Some w ↦ Some (record { keys = record { field = field; name = name } ∷ w.keys; item = w.item })
      ]

-- the id of a record, for "No id twice in 10, 20, 30, 40, 50" and W1's region_id: its first field, where that is of the sort `id`; `Cases` computes the six
unfoldable pub id_in : Rows → Option Key
id_in no_row = None
id_in (row field need name unlisted rows) = None
id_in (row field need name (scalar sort) rows) =
    elim (Sort-discrete (List-discrete ℕ_discrete) (List-discrete (List-discrete ℕ_discrete)) sort id) [ yes e ↦ Some (record { field = field; name = name }) | no e ↦ None ]
id_in (row field need name (array numbering most σ) rows) = None
id_in (row field need name (object inner) rows) = None

-- of a file, by its shape: the shape of a record, and its id
unfoldable pub record_in : Shape → Shape
record_in σ = elim (way_in σ) [ None ↦ unlisted | Some w ↦ w.item ]

unfoldable pub id_of : Shape → Option Key
id_of σ = id_in (rows_of (record_in σ))

-- of a sheet, by its number: the way to its records, the shape of one, and its id
abbrev pub way_to : ℕ → Option Way
way_to sheet = way_in (sheet_shape sheet)

abbrev pub record_shape : ℕ → Shape
record_shape sheet = record_in (sheet_shape sheet)

abbrev pub id_key : ℕ → Option Key
id_key sheet = id_of (sheet_shape sheet)

-- whether it has records, and whether they have ids
abbrev pub has_records : ℕ → Bool
has_records sheet = given (way_to sheet)

abbrev pub has_ids : ℕ → Bool
has_ids sheet = given (id_key sheet)

-- opens all that finds a file's records; and all that finds their ids
unfoldable pub located : Unit {0}
unfolding way_in record_in file_shape sheets tables flatten table23 listing file zones system
located = tt

unfoldable pub identified : Unit {0}
unfolding located id_in id_of rows_of vehicle_type station status bike plan zone region
identified = tt
