-- The records that are gathered by their rows: what the values at their slots break is what the record breaks. `…Of` is what a record breaks by the
-- values of its fields, in the order in which the code joins it, and `…By` the same by the bytes of the values.
use mathlib.Core.Bool.{Bool, true, not}
use mathlib.Core.List.{List, [], ◌++◌, append_assoc}
use mathlib.Core.Path.{◌≡◌, sym, ap, subst, ◌∙◌}
use Prim.Native.Nat.{ℕ, ◌<◌}
use native.Mathlib.Omega.{arith}
use lib.Dec.{eqb}
use lib.ListN.{length, get_or}
use Rattle.notation.specs.Choice.{◌and◌}
use Rattle.word.specs.Kinds.{sum_differs}
use Rattle.json_text.specs.Tree as tree
use Rattle.json_text.specs.Tree.{Members}
use Rattle.walk.specs.Part.{Whole}
use Rattle.walk.specs.inner.Along.{AlongItems}
use Rattle.schema.specs.Shape as shape
use Rattle.schema.specs.Shape.{Shape}
use Rattle.schema.specs.Table23.{available}
use Rattle.schema.specs.Tables.{sheet_of}
use Rattle.schema.specs.Records.{record_shape, has_records}
use Rattle.schema.specs.Pick.{Picked, pick}
use Rattle.slots.specs.declared.Slots.{Slots}
use Rattle.slots.specs.inner.Rows.{names_in}
use Rattle.fault.specs.declared.Fault.{Fault}
use Rattle.fault.specs.Fault.{faulty}
use Rattle.document.specs.Document.{field, field_items, text, spelling, given}
use Rattle.document.specs.inner.Items.{picked_items}
use Rattle.document.specs.Values.{integer_in}
use Rattle.document.specs.inner.Values.{member_of, text_by, there_by, array_by, spelled_by}
use Rattle.document.proofs.Arrays.{member-along}
use Rattle.document.proofs.Values.{member-holds, holds-there}
use Rattle.document.proofs.FieldBytes.{field-text, field-given, field-spelled, field-items}
use Rattle.ids.specs.References.{kind_if, has_capacity, motorized, not_human, named, refers, demanded}
use Rattle.cross.specs.Cross.{Files, record_place, sum_of, available_faults, type_faults, station_faults, status_faults, bike_faults}
use Rattle.cross.specs.inner.Judged.{Reads, Slotted}
use Rattle.cross.proofs.Tabled.{record_rows, object-rows, Value, Listing, has-records, type_rows, station-rows, status-rows, bike-rows}
use Rattle.cross.proofs.Layouts.{layout, slot-member}
use Rattle.std.specs.Prelude.{Option}

-- what is picked of an object as a record of a sheet
abbrev picked_as : (sheet : ℕ) → Members → Picked
picked_as sheet ms = pick (record_shape sheet) (tree.object ms)

-- The fields of a record of a sheet, by its slots.
module _ (sheet : ℕ) (h : has_records sheet ≡ true) {p : List ℕ} {s : Slots} (g : Slotted sheet p s) {ms : Members} (w : Whole p (tree.object ms)) where
  by_rows : {A : Type 0} (look : Picked → A) → look (pick (shape.object (record_rows sheet)) (tree.object ms)) ≡ look (picked_as sheet ms)
  by_rows look = ap (λ (σ : Shape). look (pick σ (tree.object ms))) (sym (object-rows sheet h))

  -- a value
  module _ {j f : ℕ} (v : Value (record_rows sheet) j f) {q : List ℕ} (r : Reads p s j q) where
    member_is : q ≡ member_of p (get_or (names_in (record_rows sheet)) j [])
    member_is = slot-member g (layout sheet h) j v.short r w

    value-text : text_by q ≡ text f (picked_as sheet ms)
    value-text = ap text_by member_is ∙ field-text v.lists w ∙ by_rows (text f)

    value-given : there_by q ≡ given (field f (picked_as sheet ms))
    value-given = ap there_by member_is ∙ field-given v.lists w ∙ by_rows (λ y. given (field f y))

    value-spelled : spelled_by q ≡ spelling f (picked_as sheet ms)
    value-spelled = ap spelled_by member_is ∙ field-spelled v.lists w ∙ by_rows (spelling f)

  -- an array
  module _ {j f most : ℕ} {item : Shape} (v : Listing (record_rows sheet) j f most item) {q : List ℕ} (r : Reads p s j q) where
    listing-is : q ≡ member_of p (get_or (names_in (record_rows sheet)) j [])
    listing-is = slot-member g (layout sheet h) j v.short r w

    listing-given : there_by q ≡ given (field f (picked_as sheet ms))
    listing-given =
        ap there_by listing-is
        ∙ holds-there (shape.array shape.subs most item) _ (field f (pick (shape.object (record_rows sheet)) (tree.object ms))) (member-holds v.lists p (tree.object ms) w)
        ∙ by_rows (λ y. given (field f y))

    listing-items : picked_items item (array_by q) ≡ field_items f (picked_as sheet ms)
    listing-items = ap (λ (l : List ℕ). picked_items item (array_by l)) listing-is ∙ field-items v.lists w ∙ by_rows (field_items f)

    listing-along : 0 < length (array_by q) → AlongItems (array_by q) 1
    listing-along = subst (λ (l : List ℕ). 0 < length (array_by l) → AlongItems (array_by l) 1) (sym listing-is) (member-along _ _)

-- a vehicle type
module _ (table : ℕ) (f : Files) (n : ℕ) where
  abbrev type_of : (motor : Option (List ℕ)) (range : Bool) (plan : Option (List ℕ)) (priced : Bool) → List Fault
  type_of motor range plan priced =
      faulty (record_place n 0) 13 (demanded (not_human motor) range) ++ faulty (record_place n 0) 14 (demanded (f 5).here priced ++ refers plan 50 (f 5).records)

  same_type : {a b e o : Option (List ℕ)} {c d g h : Bool} → a ≡ b → c ≡ d → e ≡ o → g ≡ h → type_of a c e g ≡ type_of b d o h
  same_type i j k l = rw (i, j, k, l)

  abbrev pub type_by : (motor range plan : List ℕ) → List Fault
  type_by motor range plan = type_of (text_by motor) (there_by range) (text_by plan) (there_by plan)

  pub type_is : {p : List ℕ} {s : Slots} → Slotted (sheet_of table 1) p s → {motor range plan : List ℕ} → Reads p s 2 motor → Reads p s 3 range → Reads p s 4 plan
      → {ms : Members} → Whole p (tree.object ms) → type_by motor range plan ≡ type_faults f n (picked_as (sheet_of table 1) ms)
  unfolding type_faults
  type_is g a b c w =
      let sheet = sheet_of table 1 in let h = has-records table 1 (omega arith) (omega arith) in let rows = type_rows table in
      same_type (value-text sheet h g w rows.motor a) (value-given sheet h g w rows.range b)
      (value-text sheet h g w rows.plan c) (value-given sheet h g w rows.plan c)

-- a station
pub station-is : (table : ℕ) (f : Files) (n : ℕ) {p : List ℕ} {s : Slots} → Slotted (sheet_of table 2) p s → {region : List ℕ} → Reads p s 5 region
    → {ms : Members} → Whole p (tree.object ms)
    → faulty (record_place n 0) 25 (refers (text_by region) 100 (f 8).records) ≡ station_faults f n (picked_as (sheet_of table 2) ms)
unfolding station_faults
station-is table f n g a w =
    ap (λ z. faulty (record_place n 0) 25 (refers z 100 (f 8).records))
    (value-text (sheet_of table 2) (has-records table 2 (omega arith) (omega arith)) g w (station-rows table).region a)

-- a status
module _ (table : ℕ) (f : Files) (n : ℕ) where
  abbrev status_of : (station : Option (List ℕ)) (docks there : Bool) (counts : List Picked) (bikes : Option (List ℕ)) → List Fault
  status_of station docks there counts bikes =
      (faulty (record_place n 0) 30 (refers station 20 (f 2).records) ++ faulty (record_place n 0) 32 (demanded (named has_capacity 20 (f 2).records station) docks)) ++
      (faulty (record_place n 0) 37 (demanded (f 1).here there ++ kind_if (there and not (eqb (sum_of counts) (integer_in bikes))) sum_differs) ++
      available_faults (f 1).records n 1 counts)

  same-status : {a b i j : Option (List ℕ)} {c d e r : Bool} {g h : List Picked}
      → a ≡ b → c ≡ d → e ≡ r → g ≡ h → i ≡ j → status_of a c e g i ≡ status_of b d r h j
  same-status k l m o q = rw (k, l, m, o, q)

  abbrev pub status_by : (station docks counts bikes : List ℕ) → List Fault
  status_by station docks counts bikes = status_of (text_by station) (there_by docks) (there_by counts) (picked_items available (array_by counts)) (spelled_by bikes)

  pub status-is : {p : List ℕ} {s : Slots} → Slotted (sheet_of table 3) p s → {station docks counts bikes : List ℕ}
      → Reads p s 0 station → Reads p s 2 docks → Reads p s 7 counts → Reads p s 1 bikes → {ms : Members} → Whole p (tree.object ms)
      → status_by station docks counts bikes ≡ status_faults f n (picked_as (sheet_of table 3) ms)
  unfolding status_faults
  status-is g {station} {docks} {counts} {bikes} a b c d {ms} w =
      let sheet = sheet_of table 3 in let h = has-records table 3 (omega arith) (omega arith) in let rows = status-rows table in let x = picked_as sheet ms in
      let e : status_by station docks counts bikes ≡ status_of (text 30 x) (given (field 32 x)) (given (field 37 x)) (field_items 37 x) (spelling 31 x) =
      same-status (value-text sheet h g w rows.station a) (value-given sheet h g w rows.docks b)
      (listing-given sheet h g w rows.counts c) (listing-items sheet h g w rows.counts c) (value-spelled sheet h g w rows.bikes d) in
      e ∙ simp append_assoc

-- the counts of a status are a whole array, or there is nothing
pub counts-along : (table : ℕ) {p : List ℕ} {s : Slots} → Slotted (sheet_of table 3) p s → {counts : List ℕ} → Reads p s 7 counts
    → {ms : Members} → Whole p (tree.object ms) → 0 < length (array_by counts) → AlongItems (array_by counts) 1
counts-along table g c w = listing-along (sheet_of table 3) (has-records table 3 (omega arith) (omega arith)) g w (status-rows table).counts c

-- a bike
module _ (table : ℕ) (f : Files) (n : ℕ) where
  abbrev bike_of : (lat lon : Bool) (type : Option (List ℕ)) (type_given range : Bool) (station : Option (List ℕ)) (docked : Bool) (plan : Option (List ℕ))
      → List Fault
  bike_of lat lon type type_given range station docked plan =
      ((faulty (record_place n 0) 41 (demanded (not docked) lat) ++ faulty (record_place n 0) 42 (demanded (not docked) lon)) ++
      (faulty (record_place n 0) 45 (demanded (f 1).here type_given ++ refers type 10 (f 1).records) ++
      faulty (record_place n 0) 46 (demanded (named motorized 10 (f 1).records type) range))) ++
      (faulty (record_place n 0) 47 (refers station 20 (f 2).records) ++ faulty (record_place n 0) 48 (refers plan 50 (f 5).records))

  same-bike : {a b c d i j k l o q : Bool} {e m g h u v : Option (List ℕ)} → a ≡ b → c ≡ d → e ≡ m → i ≡ j → k ≡ l → g ≡ h → o ≡ q → u ≡ v
      → bike_of a c e i k g o u ≡ bike_of b d m j l h q v
  same-bike p r s t w x y z = rw (p, r, s, t, w, x, y, z)

  abbrev pub bike_by : (lat lon type range station plan : List ℕ) → List Fault
  bike_by lat lon type range station plan =
      bike_of (there_by lat) (there_by lon) (text_by type) (there_by type) (there_by range) (text_by station) (there_by station) (text_by plan)

  pub bike-is : {p : List ℕ} {s : Slots} → Slotted (sheet_of table 4) p s → {lat lon type range station plan : List ℕ}
      → Reads p s 1 lat → Reads p s 2 lon → Reads p s 5 type → Reads p s 6 range → Reads p s 7 station → Reads p s 8 plan
      → {ms : Members} → Whole p (tree.object ms)
      → bike_by lat lon type range station plan ≡ bike_faults f n (picked_as (sheet_of table 4) ms)
  unfolding bike_faults
  bike-is g {lat} {lon} {type} {range} {station} {plan} a b c d e k {ms} w =
      let sheet = sheet_of table 4 in let h = has-records table 4 (omega arith) (omega arith) in let rows = bike-rows table in let x = picked_as sheet ms in
      let i : bike_by lat lon type range station plan ≡
      bike_of (given (field 41 x)) (given (field 42 x)) (text 45 x) (given (field 45 x)) (given (field 46 x)) (text 47 x) (given (field 47 x)) (text 48 x) =
      same-bike (value-given sheet h g w rows.lat a) (value-given sheet h g w rows.lon b)
      (value-text sheet h g w rows.type c) (value-given sheet h g w rows.type c) (value-given sheet h g w rows.range d)
      (value-text sheet h g w rows.station e) (value-given sheet h g w rows.station e) (value-text sheet h g w rows.plan k) in
      i ∙ simp append_assoc
