-- Every broken rule of stage C fits the word: a file has no more records than the word can number, nor a record more items or rules.
use mathlib.Core.Bool.{Bool, true, false, not}
use mathlib.Core.List.{List, [], ◌∷◌, map, Memᴰ}
use mathlib.Core.Logic.{◌⊎◌, inl, inr, ⊎_elim}
use mathlib.Core.Path.{◌≡◌, refl, sym, subst}
use Prim.Native.Nat.{ℕ, ◌+◌, ◌≤◌}
use native.Mathlib.Omega.{arith}
use lib.Dec.{eqb}
use lib.ListN.{length, length-map}
use Rattle.notation.specs.Choice.{◌and◌}
use Rattle.notation.proofs.Booleans.{by_test}
use Rattle.word.specs.Kinds.{id_twice, dangling, condition, sum_differs}
use Rattle.json_text.specs.Tree.{Json}
use Rattle.walk.specs.declared.Item.{Item}
use Rattle.walk.specs.Walk.{items_of}
use Rattle.walk.specs.Part.{part_tree}
use Rattle.walk.proofs.Parts.{item_of}
use Rattle.schema.specs.Shape.{Shape}
use Rattle.schema.specs.Table23.{zone}
use Rattle.schema.specs.Tables.{table_at, sheet_of}
use Rattle.schema.specs.Records.{record_shape, has_records, has_ids}
use Rattle.schema.specs.Pick.{Picked, pick}
use Rattle.schema.proofs.SheetShapes.{sheet_shape_lem}
use Rattle.fault.specs.declared.Fault.{Fault}
use Rattle.fault.specs.Fault.{fault, top, least, faulty}
use Rattle.fault.specs.Outcome.{file_count}
use Rattle.fault.specs.declared.Place.{Place}
use Rattle.judge.specs.Faults.{faults}
use Rattle.judge.specs.Bounds.{greatest, fields}
use Rattle.judge.proofs.Holds.{All, none, more, only, all_append, Holds, nothing, holding, holds-is, holds-least, holds_append}
use Rattle.document.specs.Document.{field, field_items, text, text_in, spelling, given}
use Rattle.document.specs.Values.{integer_in}
use Rattle.document.proofs.FieldBytes.{row_of, listed}
use Rattle.ids.specs.inner.Ids.{id_field, record_bytes, repeated, repeat_from, first_repeat}
use Rattle.clean.specs.inner.Blamed.{blamed}
use Rattle.clean.proofs.Faultless.{field-sound, items-few}
use Rattle.ids.specs.References.{kind_if, any_with, any, has_capacity, motorized, named, refers, demanded}
use Rattle.cross.specs.Cross.{Files, record_place, missing_file, sum_of, available_faults, id_faults, rule_faults, type_faults, station_faults, status_faults, bike_faults, zone_faults, each_record, faults_of, cross_faults}
use Rattle.cross.specs.Stage.{file_of}
use Rattle.cross.specs.inner.Recorded.{repeat_of, ids_least}
use Rattle.cross.proofs.Numbers.{by_number, Each}
use Rattle.cross.proofs.Tabled.{has-records, recordless, id_number_lem, object-rows, status-rows, zone-shape}
use Rattle.cross.proofs.Bare.{bare-faults}
use Rattle.cross.proofs.Files.{InBytes, file_sheet}
use Rattle.std.specs.Prelude.{Some, Option, None}

-- the kinds of stage C
pub record OfStageC (kind : ℕ) : Type 0 where
  pub least : id_twice ≤ kind
  pub most : kind ≤ sum_differs

-- a fault of stage C that the word can say
pub record Fitting (f : Fault) : Type 0 where
  pub rec : f.«record» ≤ greatest
  pub field : f.field ≤ fields
  pub sub : f.sub ≤ greatest
  pub kind : OfStageC f.kind

-- Kinds.

when_kinds : (t : Bool) (k : ℕ) → OfStageC k → All OfStageC (kind_if t k)
when_kinds true k h = only h
when_kinds false k h = none

demanded-kinds : (needed there : Bool) → All OfStageC (demanded needed there)
demanded-kinds needed there = when_kinds (needed and not there) condition (record { least = omega arith; most = omega arith })

refers-kinds : (o : Option (List ℕ)) (f : ℕ) (l : List Picked) → All OfStageC (refers o f l)
refers-kinds None f l = none
refers-kinds (Some id) f l = when_kinds (not (any_with any f l id)) dangling (record { least = omega arith; most = omega arith })

-- The n-th record.
module _ (n : ℕ) (h : n ≤ greatest) where
  field_fits : (sub φ : ℕ) → sub ≤ greatest → φ ≤ fields → {ks : List ℕ} → All OfStageC ks → All Fitting (faulty (record_place n sub) φ ks)
  unfolding faulty
  field_fits sub φ i j none = none
  field_fits sub φ i j (more k ks) = more (record { rec = h; field = j; sub = i; kind = k }) (field_fits sub φ i j ks)

  own-fits : (φ : ℕ) → φ ≤ fields → {ks : List ℕ} → All OfStageC ks → All Fitting (faulty (record_place n 0) φ ks)
  own-fits φ j ks = field_fits 0 φ (omega arith) j ks

  available_fit : (types : List Picked) (sub : ℕ) (l : List Picked) → sub + length l ≤ greatest + 1 → All Fitting (available_faults types n sub l)
  unfolding available_faults
  available_fit types sub [] i = none
  available_fit types sub (x ∷ l) i =
      all_append (field_fits sub 38 (omega arith) (omega arith) (refers-kinds (text 38 x) 10 types)) (available_fit types (sub + 1) l (omega arith))

  ids_fit : (types : List Picked) (sub : ℕ) → sub ≤ greatest → (l : List Picked) → All Fitting (id_faults types n sub l)
  unfolding id_faults
  ids_fit types sub i [] = none
  ids_fit types sub i (x ∷ l) = all_append (field_fits sub 78 i (omega arith) (refers-kinds (text_in x) 10 types)) (ids_fit types sub i l)

  rules_fit : (types : List Picked) (sub : ℕ) (l : List Picked) → sub + length l ≤ greatest + 1 → All Fitting (rule_faults types n sub l)
  unfolding rule_faults
  rules_fit types sub [] i = none
  rules_fit types sub (x ∷ l) i = all_append (ids_fit types sub (omega arith) (field_items 78 x)) (rules_fit types (sub + 1) l (omega arith))

  type_fits : (s : Files) (x : Picked) → All Fitting (type_faults s n x)
  unfolding type_faults
  type_fits s x =
      all_append (own-fits 13 (omega arith) (demanded-kinds (motorized x) (given (field 13 x))))
      (own-fits 14 (omega arith) (all_append (demanded-kinds (s 5).here (given (field 14 x))) (refers-kinds (text 14 x) 50 (s 5).records)))

  station-fits : (s : Files) (x : Picked) → All Fitting (station_faults s n x)
  unfolding station_faults
  station-fits s x = own-fits 25 (omega arith) (refers-kinds (text 25 x) 100 (s 8).records)

  status-fits : (s : Files) (x : Picked) → length (field_items 37 x) ≤ greatest → All Fitting (status_faults s n x)
  unfolding status_faults
  status-fits s x i =
      let differs = given (field 37 x) and not (eqb (sum_of (field_items 37 x)) (integer_in (spelling 31 x))) in
      all_append
      (all_append
      (all_append (own-fits 30 (omega arith) (refers-kinds (text 30 x) 20 (s 2).records))
      (own-fits 32 (omega arith) (demanded-kinds (named has_capacity 20 (s 2).records (text 30 x)) (given (field 32 x)))))
      (own-fits 37 (omega arith)
      (all_append (demanded-kinds (s 1).here (given (field 37 x))) (when_kinds differs sum_differs (record { least = omega arith; most = omega arith })))))
      (available_fit (s 1).records 1 (field_items 37 x) (omega arith))

  bike-fits : (s : Files) (x : Picked) → All Fitting (bike_faults s n x)
  unfolding bike_faults
  bike-fits s x =
      let free = not (given (field 47 x)) in
      all_append
      (all_append
      (all_append
      (all_append
      (all_append (own-fits 41 (omega arith) (demanded-kinds free (given (field 41 x)))) (own-fits 42 (omega arith) (demanded-kinds free (given (field 42 x)))))
      (own-fits 45 (omega arith) (all_append (demanded-kinds (s 1).here (given (field 45 x))) (refers-kinds (text 45 x) 10 (s 1).records))))
      (own-fits 46 (omega arith) (demanded-kinds (named motorized 10 (s 1).records (text 45 x)) (given (field 46 x)))))
      (own-fits 47 (omega arith) (refers-kinds (text 47 x) 20 (s 2).records)))
      (own-fits 48 (omega arith) (refers-kinds (text 48 x) 50 (s 5).records))

  zone_in : (types : List Picked) (y : Picked) → (field 74 y ≡ None) ⊎ ((z : Picked) × (field 74 y ≡ Some z) × (length (field_items 77 z) ≤ greatest))
      → All Fitting (zone_faults types n y)
  unfolding zone_faults
  zone_in types y (inl k) = rw (zone_faults, k) none
  zone_in types y (inr k) = rw (zone_faults, k.1) (rules_fit types 1 _ (omega (arith, k.2)))

  -- where nothing is found in it by stage B
  module _ (s : Files) (x : Json) (q : Place) (φ : ℕ) where
    zone-fits : faults zone q φ (pick zone x) ≡ [] → All Fitting (zone_faults (s 1).records n (pick zone x))
    unfolding zone row_of
    zone-fits e =
        zone_in (s 1).records (pick zone x)
        (⊎_elim inl
        (λ k. inr (_, k.1, omega (arith, items-few q 74 k.0 k.2 (listed {f = 77} refl) (λ a b. refl))))
        (field-sound q φ x e (listed {f = 74} refl)))

  module _ (table : ℕ) (s : Files) (x : Json) (q : Place) (φ : ℕ) where
    -- a record of a file in which nothing is found breaks rules of stage C that fit
    abbrev Fits : ℕ → Type 0
    Fits file = let σ = record_shape (sheet_of table file) in faults σ q φ (pick σ x) ≡ [] → All Fitting (faults_of s file n (pick σ x))

    counted : Fits 3
    unfolding faults_of
    counted e =
        let is = object-rows (sheet_of table 3) (has-records table 3 (omega arith) (omega arith)) in
        let few = items-few q φ x (subst (λ (σ : Shape). faults σ q φ (pick σ x) ≡ []) is e) (status-rows table).counts.lists (λ a b. refl) in
        status-fits s _ (subst (λ (σ : Shape). length (field_items 37 (pick σ x)) ≤ greatest) (sym is) (omega (arith, few)))

    zoned : Fits 6
    unfolding faults_of
    zoned =
        subst (λ (σ : Shape). faults σ q φ (pick σ x) ≡ [] → All Fitting (faults_of s 6 n (pick σ x))) (sym (zone-shape table)) (zone-fits s x q φ)

    record_fits : (file : ℕ) → 1 ≤ file → file ≤ file_count → Fits file
    unfolding Each faults_of
    record_fits =
        by_number Fits
        (λ e. type_fits s _, (λ e. station-fits s _, (counted, (λ e. bike-fits s _, (λ e. none, (zoned, (λ e. none, (λ e. none, tt))))))))

-- Records one after another.
each_fits : (faults' : ℕ → Picked → List Fault) (g : Item → Picked) (n : ℕ) (ms : List Item) → n + length ms ≤ greatest + 1
    → ((m : Item) → Memᴰ m ms → (k : ℕ) → k ≤ greatest → All Fitting (faults' k (g m))) → All Fitting (each_record faults' n (map g ms))
unfolding each_record
each_fits faults' g n [] h k = none
each_fits faults' g n (m ∷ ms) h k =
    all_append (k m (Memᴰ.head refl) n (omega arith)) (each_fits faults' g (n + 1) ms (omega arith) (λ l i. k l (Memᴰ.tail i)))

-- Repeated ids.
repeat_few : (sheet n : ℕ) (passed rs : List (List ℕ)) → repeat_from sheet (n + 1) passed rs ≤ n + length rs
unfolding repeat_from
repeat_few sheet n passed [] = omega arith
repeat_few sheet n passed (q ∷ l) =
    by_test (repeated sheet passed q) (λ t. rw (repeat_from, t) (omega arith)) (λ t. rw (repeat_from, t) (omega (arith, repeat_few sheet (n + 1) (q ∷ passed) l)))

blamed-fits : (φ number : ℕ) → φ ≤ fields → number ≤ greatest → Holds Fitting (blamed φ number)
blamed-fits φ number h i =
    by_test (eqb number 0) (λ t. rw t nothing)
    (λ t. rw t (holding {f = fault number φ 0 id_twice} (record { rec = i; field = h; sub = omega arith; kind = record { least = omega arith; most = omega arith } })))

-- the field of a file's ids is one of the word's
id_most : (table file : ℕ) → file ≤ file_count → has_ids (sheet_of table file) ≡ true → id_field (sheet_of table file) ≤ fields
id_most table file i t = by_test (eqb file 8) (λ u. rw (id_number_lem table file t, u) (omega arith)) (λ u. rw (id_number_lem table file t, u) (omega arith))

ids-least-fits : (table file : ℕ) → file ≤ file_count → (p : List ℕ) → length (items_of p) ≤ greatest → Holds Fitting (ids_least (sheet_of table file) p)
unfolding ids_least repeat_of first_repeat record_bytes
ids-least-fits table file i p h =
    let n = sheet_of table file in
    by_test (has_ids n)
    (λ t.
    rw (ids_least, repeat_of, t)
    (blamed-fits (id_field n) (first_repeat n (record_bytes p)) (id_most table file i t)
    (omega (arith, repeat_few n 0 [] (record_bytes p), length-map (items_of p) (item_of p)))))
    (λ t. rw (ids_least, repeat_of, t) nothing)

-- One file, of which the records are those of p where it has any.
module _ (table : ℕ) (files : Files) (file : ℕ) (h : 1 ≤ file) (i : file ≤ file_count) {s p : List ℕ} (e : files file ≡ file_of (table_at table) file s)
    (b : has_records (sheet_of table file) ≡ true → InBytes (sheet_of table file) s p) where
  presence : (n : ℕ) → All Fitting (faulty top 0 (kind_if (missing_file files n) condition))
  presence n = own-fits 0 (omega arith) 0 (omega arith) (when_kinds (missing_file files n) condition (record { least = omega arith; most = omega arith }))

  recorded-holds : InBytes (sheet_of table file) s p → Holds Fitting (least (cross_faults (table_at table) files file))
  unfolding cross_faults
  recorded-holds c =
      let few = c.recorded.few in let n = sheet_of table file in
      rw (cross_faults, ← sheet_shape_lem table file, e, file_sheet table file s, c.is)
      (holds_append _ _ (holds_append _ _ (holds-least (presence file)) (rw c.repeated (ids-least-fits table file i p few)))
      (holds-least (each_fits _ (λ m. pick (record_shape n) (part_tree (item_of p m))) 1 (items_of p) (omega arith) (λ m j k l.
      let y = c.sound m j in record_fits k l table files _ y.0 y.1 file h i y.2))))

  bare-holds : file ≡ 7 → Holds Fitting (least (cross_faults (table_at table) files file))
  bare-holds k = rw (k, bare-faults table files) (holds-least (presence 7))

  pub cross_fits : (f : Fault) → least (cross_faults (table_at table) files file) ≡ Some f → Fitting f
  cross_fits f k = holds-is (by_test (has_records (sheet_of table file)) (λ t. recorded-holds (b t)) (λ t. bare-holds (recordless table file h i t))) k
