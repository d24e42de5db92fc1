-- Stage C: document 01, "Stage C", with the conditions, references and sums of the field table. All broken rules of a set of files that are
-- through stage B; kind 12 is `repeats_in`, as for a file that is judged alone.
use Rattle.std.specs.Prelude.{Bool, false, not, List, [], ◌∷◌, ◌++◌, ℕ, ◌+◌, eqb, None, Some}
use Rattle.notation.specs.Choice.{◌⇒◌else◌, ◌and◌}
use Rattle.word.specs.Kinds.{condition, sum_differs}
use Rattle.schema.specs.Shape.{Table, file_shape}
use Rattle.schema.specs.Pick.{Picked}
use Rattle.fault.specs.declared.Fault.{Fault}
use Rattle.fault.specs.declared.Place.{Place}
use Rattle.fault.specs.Fault.{top, faulty}
use Rattle.document.specs.Document.{field_items, field, text, text_in, spelling, given}
use Rattle.document.specs.Values.{integer_in}
use Rattle.clean.specs.Clean.{repeats_in}
use Rattle.ids.specs.References.{kind_if, has_capacity, motorized, named, refers, demanded}

-- what a set has of a file: whether it is there, and its records
pub record File : Type 0 where
  pub here : Bool
  pub records : List Picked

-- the files of a set by their numbers: 1 vehicle types, 2 stations, 3 statuses, 4 bikes, 5 plans, 6 zones, 7 the system, 8 regions
abbrev pub Files : Type 0
Files = ℕ → File

-- the place of a record, and of an item or a rule in it
abbrev pub record_place : ℕ → ℕ → Place
record_place n sub = record { «record» = n; sub = sub }

-- the counts of the types that are available, summed
unfoldable pub sum_of : List Picked → ℕ
sum_of [] = 0
sum_of (x ∷ l) = integer_in (spelling 39 x) + sum_of l

-- the types that are available, item by item; the first has the number sub
unfoldable pub available_faults : List Picked → ℕ → ℕ → List Picked → List Fault
available_faults types n sub [] = []
available_faults types n sub (x ∷ l) =
    faulty (record_place n sub) 38 (refers (text 38 x) 10 types) ++ available_faults types n (sub + 1) l

-- the types that a rule names, and rule by rule
unfoldable pub id_faults : List Picked → ℕ → ℕ → List Picked → List Fault
id_faults types n sub [] = []
id_faults types n sub (x ∷ l) = faulty (record_place n sub) 78 (refers (text_in x) 10 types) ++ id_faults types n sub l

unfoldable pub rule_faults : List Picked → ℕ → ℕ → List Picked → List Fault
rule_faults types n sub [] = []
rule_faults types n sub (x ∷ l) = id_faults types n sub (field_items 78 x) ++ rule_faults types n (sub + 1) l

-- the n-th record of a file
unfoldable pub type_faults : Files → ℕ → Picked → List Fault
type_faults s n x =
    faulty (record_place n 0) 13 (demanded (motorized x) (given (field 13 x))) ++
    faulty (record_place n 0) 14 (demanded (s 5).here (given (field 14 x)) ++ refers (text 14 x) 50 (s 5).records)

unfoldable pub station_faults : Files → ℕ → Picked → List Fault
station_faults s n x = faulty (record_place n 0) 25 (refers (text 25 x) 100 (s 8).records)

unfoldable pub status_faults : Files → ℕ → Picked → List Fault
status_faults s n x =
    faulty (record_place n 0) 30 (refers (text 30 x) 20 (s 2).records) ++
    faulty (record_place n 0) 32 (demanded (named has_capacity 20 (s 2).records (text 30 x)) (given (field 32 x))) ++
    faulty (record_place n 0) 37 (demanded (s 1).here (given (field 37 x)) ++
    kind_if (given (field 37 x) and not (eqb (sum_of (field_items 37 x)) (integer_in (spelling 31 x)))) sum_differs) ++
    available_faults (s 1).records n 1 (field_items 37 x)

unfoldable pub bike_faults : Files → ℕ → Picked → List Fault
bike_faults s n x =
    faulty (record_place n 0) 41 (demanded (not (given (field 47 x))) (given (field 41 x))) ++
    faulty (record_place n 0) 42 (demanded (not (given (field 47 x))) (given (field 42 x))) ++
    faulty (record_place n 0) 45 (demanded (s 1).here (given (field 45 x)) ++ refers (text 45 x) 10 (s 1).records) ++
    faulty (record_place n 0) 46 (demanded (named motorized 10 (s 1).records (text 45 x)) (given (field 46 x))) ++
    faulty (record_place n 0) 47 (refers (text 47 x) 20 (s 2).records) ++
    faulty (record_place n 0) 48 (refers (text 48 x) 50 (s 5).records)

unfoldable pub zone_faults : List Picked → ℕ → Picked → List Fault
zone_faults types n x = elim (field 74 x) [ None ↦ [] | Some p ↦ rule_faults types n 1 (field_items 77 p) ]

-- record after record, the first with the number n
unfoldable pub each_record : (ℕ → Picked → List Fault) → ℕ → List Picked → List Fault
each_record faults n [] = []
each_record faults n (x ∷ l) = faults n x ++ each_record faults (n + 1) l

-- conditions, references and sums of the n-th record of a file
unfoldable pub faults_of : Files → (file n : ℕ) → Picked → List Fault
faults_of s file n x =
    eqb file 1 ⇒ type_faults s n x else
    eqb file 2 ⇒ station_faults s n x else
    eqb file 3 ⇒ status_faults s n x else
    eqb file 4 ⇒ bike_faults s n x else
    eqb file 6 ⇒ zone_faults (s 1).records n x else []

-- a file that is called for and not there: stations and statuses go together, there are stations or bikes, and the system's own file is always there
unfoldable pub missing_file : Files → ℕ → Bool
missing_file s file =
    eqb file 2 ⇒ (s 3).here and not (s 2).here else
    eqb file 3 ⇒ (s 2).here and not (s 3).here else
    eqb file 4 ⇒ not (s 2).here and not (s 4).here else
    eqb file 7 ⇒ not (s 7).here else false

-- all of one file, by a table
unfoldable pub cross_faults : Table → Files → ℕ → List Fault
cross_faults t s file =
    faulty top 0 (kind_if (missing_file s file) condition) ++
    repeats_in (file_shape t file) (s file).records ++
    each_record (faults_of s file) 1 (s file).records
