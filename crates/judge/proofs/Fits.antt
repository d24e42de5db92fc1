-- The first fault of a file fits the word, for every table whose shapes fit it, and those of table 2.3 do. A fault past a ceiling is never the first: the
-- excess of its array comes before it, since the excess stands at the number 0 and on no later field.
use mathlib.Core.Bool.{Bool, true, false}
use mathlib.Core.List.{List, [], ◌∷◌, ◌++◌}
use mathlib.Core.Path.{◌≡◌, refl}
use Prim.Native.Nat.{ℕ, ◌+◌, ◌≤◌, ◌<◌}
use native.Mathlib.Omega.{arith}
use lib.Dec.{leb}
use borrow.Author.Tests.{leb-true}
use Rattle.notation.proofs.Booleans.{by_test, true-false, and_left, and_right}
use Rattle.word.specs.Kinds.{wrong_type, too_many}
use Rattle.json_text.specs.Tree.{Json}
use Rattle.schema.specs.Shape as shape
use Rattle.schema.specs.Shape.{Shape, Rows, Need, Numbering, Sort}
use Rattle.schema.specs.Tables.{sheets, written, sheet_shape}
use Rattle.schema.specs.Pick.{Picked, PickedItems, Slots, bare, items, slots, no_item, item, no_slot, absent, repeated, present, pick, list_of}
use Rattle.schema.proofs.Computed.{every, every_file}
use Rattle.fault.specs.declared.Fault.{Fault}
use Rattle.fault.specs.Fault.{fault, before, least, top, faulty}
use Rattle.fault.proofs.Order.{later_record}
use Rattle.rings.specs.Rings.{count}
use Rattle.fault.specs.declared.Place.{Place}
use Rattle.judge.specs.Faults.{Judge, absence, item_place, each_item, array_faults, coordinate_faults, scalar_faults, object_faults, by_numbering, slot_faults, faults_by, faults, row_faults, file_faults_by, file_faults}
use Rattle.judge.specs.Bounds.{OfStageB, Fitting, greatest, fields}
use Rattle.judge.specs.inner.WordFit.{header, in_record, in_item, Level, array_fits, fits_word, rows_fit}
use Rattle.judge.proofs.Holds.{All, none, more, only, Holds, nothing, holding, holds-map, holds-is, holds-least, holds_append, after-sub, first_stays, Of}
use Rattle.judge.proofs.Broken.{AllStageB, unless-kinds, value-kinds}
use Rattle.judge.proofs.Positions.{coordinates_fit, coordinates-of}
use Rattle.std.specs.Prelude.{Option, Some}

-- items, numbered from n + 1 on
abbrev Inside : (Fault → Type 0) → Judge → Numbering → Place → ℕ → ℕ → Type 0
Inside P judge numbering p φ n = (y : Picked) → Holds P (least (judge (item_place numbering (n + 1) p) φ y))

each_holds : {P : Fault → Type 0} (judge : Judge) (numbering : Numbering) (p : Place) (φ most : ℕ) → ((n : ℕ) → n < most → Inside P judge numbering p φ n) →
    (n : ℕ) (is : PickedItems) → n + count is ≤ most → Holds P (least (each_item judge numbering p φ n is))
unfolding each_item count list_of
each_holds judge numbering p φ most inside n no_item h = holds-least none
each_holds judge numbering p φ most inside n (item y is) h =
    holds_append _ _ (inside n (omega arith) y) (each_holds judge numbering p φ most inside (n + 1) is (omega arith))

absence-kinds : (need : Need) → AllStageB (absence need)
absence-kinds shape.required = only (omega arith)
absence-kinds shape.optional = none
absence-kinds shape.conditional = none

-- too many items, where none of them has a fault that comes before
abbrev excess : Place → ℕ → Fault
excess p φ = fault p.«record» φ p.sub too_many

excess_first : (p : Place) (φ : ℕ) (l : List Fault) → Holds (λ f. before f (excess p φ) ≡ false) (least l) →
    least (faulty p φ (too_many ∷ []) ++ l) ≡ Some (excess p φ)
unfolding faulty least
excess_first p φ l h = first_stays (excess p φ) h

-- What holds of a value's own faults and of those inside it holds of all.
module _ {P : Fault → Type 0} (p : Place) (φ : ℕ) (here : (k : ℕ) → OfStageB k → P (fault p.«record» φ p.sub k)) where
  faulty-all : {ks : List ℕ} → AllStageB ks → All P (faulty p φ ks)
  unfolding faulty
  faulty-all none = none
  faulty-all (more b bs) = more (here _ b) (faulty-all bs)

  faulty-holds : {ks : List ℕ} → AllStageB ks → Holds P (least (faulty p φ ks))
  faulty-holds bs = holds-least (faulty-all bs)

  no_such_type : Holds P (least (faulty p φ (wrong_type ∷ [])))
  no_such_type = faulty-holds (only (omega arith))

  scalar-holds : (σ : Sort) (x : Picked) → Holds P (least (scalar_faults σ p φ x))
  scalar-holds σ (bare x) = faulty-holds (value-kinds σ x)
  scalar-holds σ (items is) = no_such_type
  scalar-holds σ (slots ss) = no_such_type

  object-holds : (rows : Place → Slots → List Fault) → ((ss : Slots) → Holds P (least (rows p ss))) → (x : Picked) → Holds P (least (object_faults rows p φ x))
  object-holds rows inside (bare x) = no_such_type
  object-holds rows inside (items is) = no_such_type
  object-holds rows inside (slots ss) = inside ss

  coordinates_hold : ((is : PickedItems) → Holds P (least (coordinate_faults p φ (items is)))) → (x : Picked) → Holds P (least (coordinate_faults p φ x))
  coordinates_hold inside (bare x) = no_such_type
  coordinates_hold inside (items is) = inside is
  coordinates_hold inside (slots ss) = no_such_type

  module _ (judge : Judge) (numbering : Numbering) (most : ℕ) where
    -- an array whose items' numbers do not matter
    items_hold : ((n : ℕ) → Inside P judge numbering p φ n) → (x : Picked) → Holds P (least (array_faults judge numbering most p φ x))
    items_hold inside (bare x) = no_such_type
    items_hold inside (items is) =
        holds_append _ _ (faulty-holds (unless-kinds (leb (count is) most) too_many (omega arith)))
        (each_holds judge numbering p φ (count is) (λ n h. inside n) 0 is (omega arith))
    items_hold inside (slots ss) = no_such_type

    -- an array whose excess comes before the faults of its items
    counted_hold : ((n : ℕ) → n < most → Inside P judge numbering p φ n) →
        ((n : ℕ) → Inside (λ f. before f (excess p φ) ≡ false) judge numbering p φ n) →
        (x : Picked) → Holds P (least (array_faults judge numbering most p φ x))
    counted_hold inside after (bare x) = no_such_type
    counted_hold inside after (items is) = by_test (leb (count is) most) few many
      where
        few : leb (count is) most ≡ true → Holds P (least (array_faults judge numbering most p φ (items is)))
        few t =
            let h : count is ≤ most = leb-true (count is) most t in
            holds_append _ _ (faulty-holds (unless-kinds (leb (count is) most) too_many (omega arith)))
            (each_holds judge numbering p φ most inside 0 is (omega arith))

        many : leb (count is) most ≡ false → Holds P (least (array_faults judge numbering most p φ (items is)))
        many t =
            rw (t, excess_first p φ (each_item judge numbering p φ 0 is) (each_holds judge numbering p φ (count is) (λ n h. after n) 0 is (omega arith)))
            (holding (here too_many (omega arith)))
    counted_hold inside after (slots ss) = no_such_type

  -- a row of an object, in this field
  row-holds : (judge : Judge) (need : Need) (rest : Place → Slots → List Fault) → ((y : Picked) → Holds P (least (judge p φ y))) →
      ((ss : Slots) → Holds P (least (rest p ss))) → (ss : Slots) → Holds P (least (slot_faults judge need p φ rest ss))
  row-holds judge need rest inside below no_slot = holds-least none
  row-holds judge need rest inside below (absent f ss) = holds_append _ _ (faulty-holds (absence-kinds need)) (below ss)
  row-holds judge need rest inside below (repeated f ss) = holds_append _ _ (faulty-holds (only (omega arith))) (below ss)
  row-holds judge need rest inside below (present f x ss) = holds_append _ _ (inside x) (below ss)

-- Where a value stands, by its level; and the numbers of its place are within the word.
abbrev Placed : Level → Place → Type 0
Placed header p = (p.«record» ≡ 0) × (p.sub ≡ 0)
Placed in_record p = p.sub ≡ 0
Placed in_item p = Unit {0}

record Within (p : Place) : Type 0 where
  rec : p.«record» ≤ greatest
  sub : p.sub ≤ greatest

-- a fault of the record and item that a value stands in, on its field or a later one
abbrev Under : Level → Place → ℕ → Fault → Type 0
Under header p φ f = Unit {0}
Under in_record p φ f = (f.«record» ≡ p.«record») × (φ ≤ f.field)
Under in_item p φ f = (f.«record» ≡ p.«record») × (φ ≤ f.field) × (f.sub ≡ p.sub)

record Kept (l : Level) (p : Place) (φ : ℕ) (f : Fault) : Type 0 where
  under : Under l p φ f
  fits : Within p → Fitting f

under-here : (l : Level) (p : Place) (φ k : ℕ) → Under l p φ (fault p.«record» φ p.sub k)
under-here header p φ k = tt
under-here in_record p φ k = (refl, omega arith)
under-here in_item p φ k = (refl, omega arith, refl)

under-later : (l : Level) (p : Place) (φ ψ : ℕ) → φ ≤ ψ → (f : Fault) → Under l p ψ f → Under l p φ f
under-later header p φ ψ h f u = tt
under-later in_record p φ ψ h f u = (u.0, omega (arith, u.1))
under-later in_item p φ ψ h f u = (u.0, omega (arith, u.1), u.2)

kept_here : (l : Level) (p : Place) (φ : ℕ) → φ ≤ fields → (k : ℕ) → OfStageB k → Kept l p φ (fault p.«record» φ p.sub k)
kept_here l p φ known k b =
    record { under = under-here l p φ k; fits = λ w. record { rec = w.rec; field = known; sub = w.sub; kind = b } }

kept-later : {l : Level} {p : Place} {φ ψ : ℕ} → φ ≤ ψ → (f : Fault) → Kept l p ψ f → Kept l p φ f
kept-later {l} {p} {φ} {ψ} h f k = record { under = under-later l p φ ψ h f k.under; fits = k.fits }

-- Arrays, by their numbering: where the items' judge keeps to an item's place, the array's keeps to the array's.
abbrev Keeps : Judge → Level → ℕ → Type 0
Keeps judge l φ = (p : Place) → Placed l p → (y : Picked) → Holds (Kept l p φ) (least (judge p φ y))

module _ (judge : Judge) (p : Place) (φ : ℕ) (known : φ ≤ fields) (most : ℕ) where
  records_keep : most ≤ greatest → Placed header p → Keeps judge in_record φ → (x : Picked) → Holds (Kept header p φ) (least (array_faults judge shape.records most p φ x))
  records_keep h at keeps x =
      counted_hold p φ (kept_here header p φ known) judge shape.records most
      (λ n less y. holds-map (λ f k. record { under = tt; fits = λ w. k.fits (record { rec = omega arith; sub = w.sub }) }) (keeps (item_place shape.records (n + 1) p) at.1 y))
      (λ n y. holds-map (λ f k. later_record (excess p φ) f (omega (arith, k.under.0, at.0))) (keeps (item_place shape.records (n + 1) p) at.1 y))
      x

  subs_keep : most ≤ greatest → Placed in_record p → Keeps judge in_item φ → (x : Picked) → Holds (Kept in_record p φ) (least (array_faults judge shape.subs most p φ x))
  subs_keep h at keeps x =
      counted_hold p φ (kept_here in_record p φ known) judge shape.subs most
      (λ n less y.
      holds-map
      (λ f k. record { under = (k.under.0, k.under.1); fits = λ w. k.fits (record { rec = w.rec; sub = omega arith }) })
      (keeps (item_place shape.subs (n + 1) p) tt y))
      (λ n y. holds-map (λ f k. after-sub (excess p φ) f k.under.0 k.under.1 (omega (arith, k.under.2, at))) (keeps (item_place shape.subs (n + 1) p) tt y))
      x

  outer-keeps : (l : Level) → Placed l p → Keeps judge l φ → (x : Picked) → Holds (Kept l p φ) (least (array_faults judge shape.outer most p φ x))
  outer-keeps l at keeps x = items_hold p φ (kept_here l p φ known) judge shape.outer most (λ n y. keeps p at y) x

-- positions
kept_of : {p : Place} {φ : ℕ} {x : Option Fault} → Holds (Of p.«record» φ) x → (Within p → Holds Fitting x) → Holds (Kept in_record p φ) x
kept_of nothing fits = nothing
kept_of (holding {f = f} o) fits = holding {f = f} (record { under = (o.rec, omega (arith, o.field)); fits = λ w. holds-is (fits w) refl })

positions_keep : (p : Place) (φ : ℕ) → φ ≤ fields → (x : Picked) → Holds (Kept in_record p φ) (least (coordinate_faults p φ x))
positions_keep p φ known x =
    coordinates_hold p φ (kept_here in_record p φ known) (λ is. kept_of (coordinates-of p φ is) (λ w. coordinates_fit p φ w.rec known is)) x

array_keeps : (numbering : Numbering) (l : Level) (judge : Judge) (inner : Level → Bool) (p : Place) (φ : ℕ) → φ ≤ fields → (most : ℕ) → Placed l p →
    ((m : Level) → inner m ≡ true → Keeps judge m φ) → array_fits numbering l most inner ≡ true → (x : Picked) →
    Holds (Kept l p φ) (least (by_numbering numbering (array_faults judge numbering most p φ x) (coordinate_faults p φ x)))
array_keeps shape.records header judge inner p φ known most at keeps t x =
    records_keep judge p φ known most (leb-true most greatest (and_left _ _ t)) at (keeps in_record (and_right (leb most greatest) _ t)) x
array_keeps shape.records in_record judge inner p φ known most at keeps t x = true-false t refl
array_keeps shape.records in_item judge inner p φ known most at keeps t x = true-false t refl
array_keeps shape.subs header judge inner p φ known most at keeps t x = true-false t refl
array_keeps shape.subs in_record judge inner p φ known most at keeps t x =
    subs_keep judge p φ known most (leb-true most greatest (and_left _ _ t)) at (keeps in_item (and_right (leb most greatest) _ t)) x
array_keeps shape.subs in_item judge inner p φ known most at keeps t x = true-false t refl
array_keeps shape.outer l judge inner p φ known most at keeps t x = outer-keeps judge p φ known most l at (keeps l t) x
array_keeps shape.positions header judge inner p φ known most at keeps t x = true-false t refl
array_keeps shape.positions in_record judge inner p φ known most at keeps t x = positions_keep p φ known x
array_keeps shape.positions in_item judge inner p φ known most at keeps t x = true-false t refl

-- All shapes.
mutual
  unfolding faults_by fits_word

  keeps : (σ : Shape) (l : Level) (φ : ℕ) → φ ≤ fields → fits_word σ l φ ≡ true → Keeps (λ q f y. faults σ q f y) l φ
  keeps shape.unlisted l φ known t p at x = holds-least none
  keeps (shape.scalar sort) l φ known t p at x = scalar-holds p φ (kept_here l p φ known) sort x
  keeps (shape.array numbering most σ) l φ known t p at x =
      array_keeps numbering l (λ q f y. faults σ q f y) (λ m. fits_word σ m φ) p φ known most at (λ m u. keeps σ m φ known u) t x
  keeps (shape.object rows) l φ known t p at x =
      object-holds p φ (kept_here l p φ known) (λ q ss. row_faults rows q ss) (λ ss. keeps-rows rows l φ t p at ss) x

  keeps-rows : (rows : Rows) (l : Level) (φ : ℕ) → rows_fit rows l φ ≡ true → (p : Place) → Placed l p → (ss : Slots) →
      Holds (Kept l p φ) (least (row_faults rows p ss))
  keeps-rows shape.no_row l φ t p at ss = holds-least none
  keeps-rows (shape.row f need name σ rows) l φ t p at ss =
      let a = and_right (leb φ f) _ t in
      let b = and_right (leb f fields) _ a in
      let h : φ ≤ f = leb-true φ f (and_left (leb φ f) _ t) in
      let known : f ≤ fields = leb-true f fields (and_left (leb f fields) _ a) in
      row-holds p f (λ k o. kept-later h _ (kept_here l p f known k o)) (λ q g y. faults σ q g y) need (λ q rest. row_faults rows q rest)
      (λ y. holds-map (kept-later h) (keeps σ l f known (and_left (fits_word σ l f) _ b) p at y))
      (λ rest. keeps-rows rows l φ (and_right (fits_word σ l f) _ b) p at rest)
      ss

-- Files: the shape of every number fits from the top value on, which is field 0.
pub shape-fits : (σ : Shape) → fits_word σ header 0 ≡ true → (x : Json) (f : Fault) → least (file_faults σ x) ≡ Some f → Fitting f
unfolding file_faults_by
shape-fits σ t x f e = (holds-is (keeps σ header 0 (omega arith) t top (refl, refl) (pick σ x)) e).fits (omega arith)

pub file-fits : (file : ℕ) → fits_word (sheet_shape file) header 0 ≡ true
unfolding every written fits_word
file-fits file = every_file (λ σ. fits_word σ header 0) sheets refl refl file

pub first_fits : (file : ℕ) (x : Json) (f : Fault) → least (file_faults (sheet_shape file) x) ≡ Some f → Fitting f
first_fits file x f e = shape-fits (sheet_shape file) (file-fits file) x f e
