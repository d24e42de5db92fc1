-- All broken rules of stage B in a picked file: document 01, "Stage B". A list of every one; nothing is said of the order in which they are found.
use Rattle.std.specs.Prelude.{List, [], ◌∷◌, ◌++◌, ℕ, ◌+◌, leb}
use Rattle.word.specs.Kinds.{name_twice, missing, wrong_type, too_many}
use Rattle.json_text.specs.Tree.{Json}
use Rattle.schema.specs.Shape as shape
use Rattle.schema.specs.Shape.{Shape, Rows, Need, Numbering}
use Rattle.schema.specs.Pick.{Picked, PickedItems, Slots, bare, items, slots, no_item, item, no_slot, absent, repeated, present, pick}
use Rattle.fault.specs.declared.Fault.{Fault}
use Rattle.fault.specs.Fault.{top, faulty}
use Rattle.scalar.specs.Scalars.{unless, kinds_of}
use Rattle.fault.specs.declared.Place.{Place}
use Rattle.rings.specs.Rings.{Found, numbered, count, coordinates_found}

-- the place of an array's n-th item
abbrev pub item_place : Numbering → ℕ → Place → Place
item_place shape.records n p = record { «record» = n; sub = p.sub }
item_place shape.subs n p = record { «record» = p.«record»; sub = n }
item_place shape.outer n p = p
item_place shape.positions n p = p

-- a row whose member is not there
abbrev pub absence : Need → List ℕ
absence shape.required = missing ∷ []
absence shape.optional = []
absence shape.conditional = []

abbrev pub Judge : Type 0
Judge = Place → ℕ → Picked → List Fault

-- items one after another, numbered from n + 1 on; an item's own faults stand on the array's field
unfoldable pub each_item : Judge → Numbering → Place → ℕ → ℕ → PickedItems → List Fault
each_item judge numbering p field n no_item = []
each_item judge numbering p field n (item x is) = judge (item_place numbering (n + 1) p) field x ++ each_item judge numbering p field (n + 1) is

-- an array with at most so many items
abbrev pub array_faults : Judge → Numbering → ℕ → Place → ℕ → Picked → List Fault
array_faults judge numbering most p field (items is) = faulty p field (unless (leb (count is) most) too_many) ++ each_item judge numbering p field 0 is
array_faults judge numbering most p field (bare x) = faulty p field (wrong_type ∷ [])
array_faults judge numbering most p field (slots ss) = faulty p field (wrong_type ∷ [])

-- coordinates, of which `coordinates` tells what is found in them
abbrev pub coordinate_faults_by : (coordinates : PickedItems → List Found) → Place → ℕ → Picked → List Fault
coordinate_faults_by coordinates p field (items is) = numbered p.«record» field (coordinates is)
coordinate_faults_by coordinates p field (bare x) = faulty p field (wrong_type ∷ [])
coordinate_faults_by coordinates p field (slots ss) = faulty p field (wrong_type ∷ [])

abbrev pub scalar_faults : shape.Sort → Place → ℕ → Picked → List Fault
scalar_faults σ p field (bare x) = faulty p field (kinds_of σ x)
scalar_faults σ p field (items is) = faulty p field (wrong_type ∷ [])
scalar_faults σ p field (slots ss) = faulty p field (wrong_type ∷ [])

abbrev pub object_faults : (Place → Slots → List Fault) → Place → ℕ → Picked → List Fault
object_faults rows p field (slots ss) = rows p ss
object_faults rows p field (bare x) = faulty p field (wrong_type ∷ [])
object_faults rows p field (items is) = faulty p field (wrong_type ∷ [])

abbrev pub by_numbering : Numbering → List Fault → List Fault → List Fault
by_numbering shape.records other coords = other
by_numbering shape.subs other coords = other
by_numbering shape.outer other coords = other
by_numbering shape.positions other coords = coords

-- a slot of a row: its own kinds first stop all judgement of what it holds
abbrev pub slot_faults : Judge → Need → Place → ℕ → (Place → Slots → List Fault) → Slots → List Fault
slot_faults judge need p field rest no_slot = []
slot_faults judge need p field rest (absent f ss) = faulty p field (absence need) ++ rest p ss
slot_faults judge need p field rest (repeated f ss) = faulty p field (name_twice ∷ []) ++ rest p ss
slot_faults judge need p field rest (present f x ss) = judge p field x ++ rest p ss

unfoldable mutual
  -- a value of a field against its shape
  pub faults_by : (coordinates : PickedItems → List Found) → Shape → Place → ℕ → Picked → List Fault
  faults_by coordinates shape.unlisted p field x = []
  faults_by coordinates (shape.scalar σ) p field x = scalar_faults σ p field x
  faults_by coordinates (shape.array numbering most σ) p field x =
      by_numbering numbering (array_faults (λ q f y. faults_by coordinates σ q f y) numbering most p field x) (coordinate_faults_by coordinates p field x)
  faults_by coordinates (shape.object rows) p field x = object_faults (λ q ss. row_faults_by coordinates rows q ss) p field x

  pub row_faults_by : (coordinates : PickedItems → List Found) → Rows → Place → Slots → List Fault
  row_faults_by coordinates shape.no_row p ss = []
  row_faults_by coordinates (shape.row field need name σ rows) p ss =
      slot_faults (λ q f y. faults_by coordinates σ q f y) need p field (λ q rest. row_faults_by coordinates rows q rest) ss

-- all of a file; its top value is field 0
unfoldable pub file_faults_by : (coordinates : PickedItems → List Found) → Shape → Json → List Fault
file_faults_by coordinates σ x = faults_by coordinates σ top 0 (pick σ x)

-- the same by the rules in force
abbrev pub coordinate_faults : Place → ℕ → Picked → List Fault
coordinate_faults = coordinate_faults_by coordinates_found

abbrev pub faults : Shape → Place → ℕ → Picked → List Fault
faults = faults_by coordinates_found

abbrev pub row_faults : Rows → Place → Slots → List Fault
row_faults = row_faults_by coordinates_found

abbrev pub file_faults : Shape → Json → List Fault
file_faults = file_faults_by coordinates_found
