-- The way to a file's records goes through rows each of which is required and the first of its number, so that its fields are the members of its names; the
-- array at its end has the ceiling of records, and records are objects. That is a test of a shape, which every sheet passes.
use mathlib.Core.Bool.{Bool, true, false, not}
use mathlib.Core.List.{List, [], ◌∷◌}
use mathlib.Core.Path.{◌≡◌, refl, sym, ap, subst, ◌∙◌}
use Prim.Native.Nat.{ℕ}
use lib.Dec.{eqb}
use borrow.Author.Tests.{eqb-true}
use Rattle.limits.specs.Ceilings as ceiling
use Rattle.notation.specs.Choice.{◌and◌}
use Rattle.notation.specs.Given.{given}
use Rattle.notation.proofs.Booleans.{true-false, and_left, and_right}
use Rattle.notation.proofs.Options.{none-some, some-some}
use Rattle.schema.specs.Shape as shape
use Rattle.schema.specs.Shape.{Shape, Rows, Need}
use Rattle.schema.specs.Tables.{sheets, sheet_shape, written}
use Rattle.schema.specs.Records.{Key, Way, way_in, way_through, way_to, record_in, record_shape, has_records}
use Rattle.schema.proofs.Computed.{every, every_file}
use Rattle.document.proofs.Rows as fields
use Rattle.document.proofs.Rows.{Lists}
use Rattle.std.specs.Prelude.{Option, None, Some}

-- the first row of the field f is required, and has this name and shape
pub data Requires (f : ℕ) (name : List ℕ) (σ : Shape) : Rows → Type 0 where
  here : {rows : Rows} → Requires f name σ (shape.row f shape.required name σ rows)
  below : {g : ℕ} {need : Need} {n : List ℕ} {τ : Shape} {rows : Rows} → eqb f g ≡ false → Requires f name σ rows → Requires f name σ (shape.row g need n τ rows)

pub lists : {f : ℕ} {name : List ℕ} {σ : Shape} {rows : Rows} → Requires f name σ rows → Lists f name σ rows
lists here = fields.here
lists (below e r) = fields.below e (lists r)

-- such rows that lead on
pub data Leads : Shape → List Key → Shape → Type 0 where
  arrived : {σ : Shape} → Leads σ [] σ
  into : {f : ℕ} {name : List ℕ} {σ τ : Shape} {rows : Rows} {ks : List Key} → Requires f name σ rows → Leads σ ks τ
      → Leads (shape.object rows) (record { field = f; name = name } ∷ ks) τ

-- a sheet with records
pub record Recorded (n : ℕ) : Type 0 where
  pub way : Way
  pub is : way_to n ≡ Some way
  pub leads : Leads (sheet_shape n) way.keys (shape.array shape.records ceiling.records (record_shape n))
  pub rows : Rows
  pub object : record_shape n ≡ shape.object rows

-- The test.
abbrev is_required : Need → Bool
is_required shape.required = true
is_required shape.optional = false
is_required shape.conditional = false

abbrev is_object : Shape → Bool
is_object shape.unlisted = false
is_object (shape.scalar sort) = false
is_object (shape.array numbering most σ) = false
is_object (shape.object rows) = true

-- a way does not begin with the field g
abbrev apart : ℕ → Option Way → Bool
apart g None = true
apart g (Some w) = elim w.keys [ [] ↦ true | k ∷ ks ↦ not (eqb k.field g) ]

unfoldable mutual
  required_way : Shape → Bool
  required_way shape.unlisted = true
  required_way (shape.scalar sort) = true
  required_way (shape.array shape.records most σ) = eqb most ceiling.records and is_object σ
  required_way (shape.array shape.subs most σ) = true
  required_way (shape.array shape.outer most σ) = true
  required_way (shape.array shape.positions most σ) = true
  required_way (shape.object rows) = required_rows rows

  required_rows : Rows → Bool
  required_rows shape.no_row = true
  required_rows (shape.row field need name σ rows) =
      elim (way_in σ) [ None ↦ apart field (way_through rows) and required_rows rows | Some w ↦ is_required need and required_way σ ]

-- What it says of a way.
abbrev records : Shape → Shape
records σ = shape.array shape.records ceiling.records σ

record Led (σ : Shape) (w : Way) : Type 0 where
  leads : Leads σ w.keys (records w.item)
  rows : Rows
  object : w.item ≡ shape.object rows

record LedRows (rows : Rows) (w : Way) : Type 0 where
  first : Key
  rest : List Key
  keys : w.keys ≡ first ∷ rest
  value : Shape
  row : Requires first.field first.name value rows
  leads : Leads value rest (records w.item)
  inner : Rows
  object : w.item ≡ shape.object inner

required : (need : Need) → is_required need ≡ true → need ≡ shape.required
required shape.required e = refl
required shape.optional e = true-false e refl
required shape.conditional e = true-false e refl

rows_in : (σ : Shape) → is_object σ ≡ true → (rows : Rows) × (σ ≡ shape.object rows)
rows_in shape.unlisted e = true-false e refl
rows_in (shape.scalar sort) e = true-false e refl
rows_in (shape.array numbering most σ) e = true-false e refl
rows_in (shape.object rows) e = (rows, refl)

not-true : (b : Bool) → not b ≡ true → b ≡ false
not-true true e = true-false e refl
not-true false e = refl

-- the array of records
at_records : (most : ℕ) (σ : Shape) (w : Way) → record { keys = []; item = σ } ≡ w → eqb most ceiling.records and is_object σ ≡ true → Led (shape.array shape.records most σ) w
at_records most σ w e t =
    let m = eqb-true most ceiling.records (and_left (eqb most ceiling.records) (is_object σ) t) in
    let r = rows_in σ (and_right (eqb most ceiling.records) (is_object σ) t) in
    subst (Led (shape.array shape.records most σ)) e
    (record { leads = subst (λ (n : ℕ). Leads (shape.array shape.records most σ) [] (shape.array shape.records n σ)) m arrived; rows = r.0; object = r.1 })

-- a row that leads on, or one before it; what holds of its value and of the rows below is handed over
module _ (field : ℕ) (need : Need) (name : List ℕ) (σ : Shape) (rows : Rows) (value : (v : Way) → way_in σ ≡ Some v → required_way σ ≡ true → Led σ v)
    (others : (v : Way) → way_through rows ≡ Some v → required_rows rows ≡ true → LedRows rows v) (w : Way) where
  through : (v : Way) → way_in σ ≡ Some v → is_required need and required_way σ ≡ true → LedRows (shape.row field need name σ rows) (record { keys = record { field = field; name = name } ∷ v.keys; item = v.item })
  through v i t =
      let l = value v i (and_right (is_required need) (required_way σ) t) in
      record {
        first = record { field = field; name = name };
        rest = v.keys;
        keys = refl;
        value = σ;
        row = subst (λ (n : Need). Requires field name σ (shape.row field n name σ rows)) (sym (required need (and_left (is_required need) (required_way σ) t))) here;
        leads = l.leads;
        inner = l.rows;
        object = l.object;
      }

  past : way_through rows ≡ Some w → apart field (way_through rows) and required_rows rows ≡ true → LedRows (shape.row field need name σ rows) w
  past e t =
      let r = others w e (and_right (apart field (way_through rows)) (required_rows rows) t) in
      let a : apart field (Some w) ≡ true = ap (apart field) (sym e) ∙ and_left (apart field (way_through rows)) (required_rows rows) t in
      let b : not (eqb r.first.field field) ≡ true = rw r.keys at a in
      record {
        first = r.first;
        rest = r.rest;
        keys = r.keys;
        value = r.value;
        row = below (not-true (eqb r.first.field field) b) r.row;
        leads = r.leads;
        inner = r.inner;
        object = r.object;
      }

  -- what rows and test are, by the way through the value
  abbrev ways : Option Way → Option Way
  ways o = elim o [ None ↦ way_through rows | Some v ↦ Some (record { keys = record { field = field; name = name } ∷ v.keys; item = v.item }) ]

  abbrev tests : Option Way → Bool
  tests o = elim o [ None ↦ apart field (way_through rows) and required_rows rows | Some v ↦ is_required need and required_way σ ]

  by_value : (o : Option Way) → way_in σ ≡ o → ways (way_in σ) ≡ Some w → tests (way_in σ) ≡ true → LedRows (shape.row field need name σ rows) w
  by_value None i e t = past (ap ways (sym i) ∙ e) (ap tests (sym i) ∙ t)
  by_value (Some v) i e t = subst (LedRows (shape.row field need name σ rows)) (some-some (ap ways (sym i) ∙ e)) (through v i (ap tests (sym i) ∙ t))

mutual
  unfolding way_in required_way

  led : (σ : Shape) (w : Way) → way_in σ ≡ Some w → required_way σ ≡ true → Led σ w
  led shape.unlisted w e t = none-some e
  led (shape.scalar sort) w e t = none-some e
  led (shape.array shape.records most σ) w e t = at_records most σ w (some-some e) t
  led (shape.array shape.subs most σ) w e t = none-some e
  led (shape.array shape.outer most σ) w e t = none-some e
  led (shape.array shape.positions most σ) w e t = none-some e
  led (shape.object rows) w e t =
      let r = led_rows rows w e t in
      record { leads = subst (λ (ks : List Key). Leads (shape.object rows) ks (records w.item)) (sym r.keys) (into r.row r.leads); rows = r.inner; object = r.object }

  led_rows : (rows : Rows) (w : Way) → way_through rows ≡ Some w → required_rows rows ≡ true → LedRows rows w
  led_rows shape.no_row w e t = none-some e
  led_rows (shape.row field need name σ rows) w e t = by_value field need name σ rows (λ v i u. led σ v i u) (λ v i u. led_rows rows v i u) w (way_in σ) refl e t

sheet_required : (n : ℕ) → required_way (sheet_shape n) ≡ true
unfolding every required_way way_in written
sheet_required n = every_file required_way sheets refl refl n

given-some : {A : Type 0} (o : Option A) → given o ≡ true → (x : A) × (o ≡ Some x)
given-some None e = true-false e refl
given-some (Some x) e = (x, refl)

item-is : (n : ℕ) (w : Way) → way_to n ≡ Some w → record_shape n ≡ w.item
unfolding record_in
item-is n w e = rw (record_in, e)

pub records-of : (n : ℕ) → has_records n ≡ true → Recorded n
records-of n h =
    let g = given-some (way_to n) h in
    let l = led (sheet_shape n) g.0 g.1 (sheet_required n) in
    let item : record_shape n ≡ g.0.item = item-is n g.0 g.1 in
    record {
      way = g.0;
      is = g.1;
      leads = subst (λ (σ : Shape). Leads (sheet_shape n) g.0.keys (records σ)) (sym item) l.leads;
      rows = l.rows;
      object = item ∙ l.object;
    }
