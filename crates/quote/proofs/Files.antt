-- Of a clean file of plans: its records are the items at the front of the rest, a record that has an id is the picked plan, and clear, and its quote is
-- the file's. An absent file has no plans.
use mathlib.Core.Bool.{true, false}
use mathlib.Core.List.Memᴰ
use mathlib.Core.List.{List, [], ◌∷◌, Memᴰ}
use mathlib.Core.Path.{◌≡◌, refl, sym, ap, ap₂, subst, ◌∙◌}
use Prim.Native.Nat.{ℕ, ◌-◌, ◌≤◌, ◌<◌}
use native.Mathlib.Omega.{arith}
use lib.Dec.{eqb, leb}
use lib.ListN.{length, drop, length-drop}
use borrow.Author.Tests.{le-leb, lt-leb, leb-true, eqb-true, eqb-false}
use Rattle.limits.specs.Ceilings.{depth}
use Rattle.notation.specs.Ascii.{bytes}
use Rattle.notation.proofs.Booleans.{by_test, true-false, and_left, and_right}
use Rattle.lexeme.specs.Read as read
use Rattle.lexeme.specs.Tokens.{blanks}
use Rattle.json_text.specs.Text.{text, value, value_by}
use Rattle.walk.specs.declared.Item.{Item}
use Rattle.walk.specs.Walk.{part, item_at, items_of}
use Rattle.walk.specs.Part.{part_tree}
use Rattle.walk.specs.inner.Skip.{skipped}
use Rattle.walk.proofs.Places.{found-item}
use Rattle.walk.proofs.Folds.{each, item_steps}
use Rattle.walk.proofs.Skips.{skip-value}
use Rattle.walk.proofs.Parts.{item_of, items-whole}
use Rattle.schema.specs.Shape.{Shape, Table, file_shape}
use Rattle.schema.specs.Table23.{plan}
use Rattle.schema.specs.Tables.{table_at, sheet_shape, sheet_of}
use Rattle.schema.specs.Records as key
use Rattle.schema.specs.Records.{Key, record_in, record_shape, id_key, has_records, has_ids, located, identified}
use Rattle.schema.specs.Pick.{Picked, pick}
use Rattle.schema.proofs.Recorded.{ids-recorded}
use Rattle.schema.proofs.SheetShapes.{at-tables, sheet_shape_lem}
use Rattle.document.proofs.Along.{ends-same}
use Rattle.document.specs.Document as document
use Rattle.document.specs.Document.{given, field, along}
use Rattle.document.specs.inner.Spans.{RecordsFrom}
use Rattle.document.specs.inner.Items.{picked, picked_items}
use Rattle.document.specs.inner.Values.{is_id}
use Rattle.document.proofs.Rests.{rest-picked}
use Rattle.judge.specs.Faults.{faults}
use Rattle.ids.specs.inner.Ids.{id_field, has_id}
use Rattle.ids.proofs.Picked.{id_picked}
use Rattle.clean.specs.Clean.{tree_of, records_of, records_in, clean_in, clean_of}
use Rattle.clean.proofs.Repeated.{Held}
use Rattle.clean.proofs.Cleans.{Sound, clean-sound, clean-held}
use Rattle.clean.proofs.Apart.{Apart, clean-apart}
use Rattle.quote.specs.Plan.{plan_of}
use Rattle.quote.specs.inner.Clear.{ClearPlan}
use Rattle.quote.specs.Quote.{most_seconds, most_metres, refused, plan_quote, clean_quote, short, of_clean, quote_of}
use Rattle.quote.proofs.Plans.{plan-is, plan-none, plan-among}
use Rattle.fault.specs.Outcome.{Outcome, unbroken}
use Rattle.std.specs.Prelude.{Some, None}

-- short rides
module _ (seconds metres : ℕ) where
  pub short-not : most_seconds < seconds → false ≡ short seconds metres
  unfolding short
  short-not h = rw (lt-leb seconds most_seconds h)

  pub short_test : seconds ≤ most_seconds → leb metres most_metres ≡ short seconds metres
  unfolding short
  short_test h = rw (le-leb seconds most_seconds h)

  pub short-both : short seconds metres ≡ true → (seconds ≤ most_seconds) × (metres ≤ most_metres)
  unfolding short
  short-both e =
      let a = and_left (leb seconds most_seconds) (leb metres most_metres) e in
      let b = and_right (leb seconds most_seconds) (leb metres most_metres) e in
      (leb-true seconds most_seconds a, leb-true metres most_metres b)

-- the bytes of an item, from its start to where its value is skipped to
module _ (p : List ℕ) where
  item-skipped : (at : ℕ) (m : Item) → item_at p at ≡ Some m → length p - length (skipped (drop m.value p)) ≡ m.value_end
  item-skipped at m e =
      let f = (found-item p at m e).spelt in let k = f.placed in
      ap (λ (l : List ℕ). length p - length l) (skip-value depth _ (drop m.value p) _ f.reads) ∙ omega (arith, length-drop m.value_end p, k.next, k.inside)

  pub item-ends : (m : Item) → Memᴰ m (items_of p) → {start end : ℕ} → m.value ≡ start → end ≡ length p - length (skipped (drop start p)) → part p start end ≡ item_of p m
  unfolding items_of
  item-ends m i {start} {end} v e =
      let is = each (item_steps p) (λ n. length p - length (skipped (drop n.value p)) ≡ n.value_end) item-skipped (length p) 1 m i in
      ap₂ (part p) (sym v) (e ∙ ap (λ (n : ℕ). length p - length (skipped (drop n p))) (sym v) ∙ is)

-- file 5 of every table has plans for its records, and field 50 for their ids
plan-shape : (table : ℕ) → record_in (file_shape (table_at table) 5) ≡ plan
unfolding located
plan-shape table = at-tables (λ (t : Table). record_in (file_shape t 5) ≡ plan) refl table

abbrev plan_key : Key
plan_key = record { field = 50; name = bytes "plan_id" }

plan-key : (table : ℕ) → key.id_of (file_shape (table_at table) 5) ≡ Some plan_key
unfolding identified
plan-key table = at-tables (λ (t : Table). key.id_of (file_shape t 5) ≡ Some plan_key) refl table

-- an absent file has no plans
no-plans : (table : ℕ) → records_in (file_shape (table_at table) 5) [] ≡ []
unfolding located records_of along field pick tree_of text blanks value value_by read.then
no-plans table = at-tables (λ (t : Table). records_in (file_shape t 5) [] ≡ []) refl table

plans-absent : (table : ℕ) (s id : List ℕ) → length s ≡ 0 → plan_of (records_in (file_shape (table_at table) 5) s) id ≡ None
unfolding plan_of
plans-absent table [] id e = ap (λ (l : List Picked). plan_of l id) (no-plans table)
plans-absent table (b ∷ s) id e = absurd (omega arith)

pub quote-absent : (table : ℕ) (s id : List ℕ) (seconds metres : ℕ) → length s ≡ 0
    → refused 6 ≡ clean_quote (records_in (file_shape (table_at table) 5) s) id seconds metres
unfolding clean_quote
quote-absent table s id seconds metres e = ap (plan_quote seconds metres) (sym (plans-absent table s id e))

-- the sheet of the file of plans
module _ (table : ℕ) {sheet : ℕ} (at : sheet ≡ sheet_of table 5) where
  pub plans-shape : sheet_shape sheet ≡ file_shape (table_at table) 5
  plans-shape = ap sheet_shape at ∙ sheet_shape_lem table 5

  record_plan : record_shape sheet ≡ plan
  record_plan = ap record_in plans-shape ∙ plan-shape table

  keyed : id_key sheet ≡ Some plan_key
  keyed = ap key.id_of plans-shape ∙ plan-key table

  pub identifies : has_ids sheet ≡ true
  identifies = ap given keyed

  id_field_lem : id_field sheet ≡ 50
  unfolding id_field
  id_field_lem = rw (id_field, keyed)

  recorded : has_records sheet ≡ true
  recorded = ids-recorded sheet identifies

  -- clean by the sheet is clean by the table; such a file that is there is sound
  pub clean-by : (s : List ℕ) → clean_in (sheet_shape sheet) 5 s ≡ clean_of (table_at table) 5 s
  clean-by s = ap (λ (σ : Shape). clean_in σ 5 s) plans-shape

  pub plans-sound : (s : List ℕ) → (length s ≡ 0 → ⊥) → clean_of (table_at table) 5 s ≡ unbroken → Sound sheet s
  plans-sound s h c = clean-sound sheet 5 s h (clean-by s ∙ c)

  -- the rest of a sound file from its plans on
  plans-from : {s : List ℕ} (k : Sound sheet s) → RecordsFrom sheet s (drop (clean-held sheet recorded s k).there.start s)
  plans-from {s} k =
      let there = (clean-held sheet recorded s k).there in
      record {
        inside = omega (arith, length-drop there.start s);
        none = λ e. true-false recorded e;
        starts = λ reads from upto e. ap (λ (m : ℕ). drop m s) (ends-same (sym there.is ∙ e)).0;
      }

  -- the file, and its rest p from the plans on
  module _ {s p : List ℕ} (k : Sound sheet s) (f : RecordsFrom sheet s p) where
    abbrev held : Held sheet s (tree_of s)
    held = clean-held sheet recorded s k

    records-are : held.list ≡ picked_items plan p
    records-are = rest-picked f k.reads held.there ∙ ap (λ (σ : Shape). picked_items σ p) record_plan

    plans-are : records_in (file_shape (table_at table) 5) s ≡ picked_items plan p
    plans-are = ap (λ (σ : Shape). records_in σ s) (sym plans-shape) ∙ held.are ∙ records-are

    -- no two plans have one id
    apart : Apart 50 (picked_items plan p)
    apart =
        subst (λ (g : ℕ). Apart g (picked_items plan p)) id_field_lem
        (subst (Apart (id_field sheet)) (held.are ∙ records-are) (clean-apart sheet identifies s k))

    -- each is clear
    pub item-clear : (m : Item) → Memᴰ m (items_of p) → ClearPlan (item_of p m)
    item-clear m i =
        let n = held.sound (picked plan p m) (subst (Memᴰ (picked plan p m)) (sym records-are) (Memᴰ.map (picked plan p) i)) in
        record {
          whole = items-whole p m i;
          place = n.0;
          field = held.field;
          clear = subst (λ (σ : Shape). faults σ n.0 held.field (picked plan p m) ≡ []) record_plan n.1;
        }

    module _ (id : List ℕ) where
      -- the id of a record is its field 50
      has-plan : (m : Item) → Memᴰ m (items_of p) → has_id sheet id (item_of p m) ≡ is_id id (document.text 50 (picked plan p m))
      has-plan m i =
          ap (is_id id)
          (id_picked sheet identifies (items-whole p m i)
          ∙ ap₂ (λ (g : ℕ) (σ : Shape). document.text g (pick σ (part_tree (item_of p m)))) id_field_lem record_plan)

      pub quote-none : (seconds metres : ℕ) → ((m : Item) → Memᴰ m (items_of p) → has_id sheet id (item_of p m) ≡ false)
          → refused 6 ≡ clean_quote (records_in (file_shape (table_at table) 5) s) id seconds metres
      unfolding clean_quote
      quote-none seconds metres h =
          ap (plan_quote seconds metres)
          (sym (ap (λ (l : List Picked). plan_of l id) plans-are ∙ plan-none id (picked plan p) (items_of p) (λ m i. sym (has-plan m i) ∙ h m i)))

      pub quote-some : (m : Item) → Memᴰ m (items_of p) → has_id sheet id (item_of p m) ≡ true → (seconds metres : ℕ)
          → plan_quote seconds metres (Some (picked plan p m)) ≡ clean_quote (records_in (file_shape (table_at table) 5) s) id seconds metres
      unfolding clean_quote
      quote-some m i h seconds metres =
          ap (plan_quote seconds metres)
          (sym (ap (λ (l : List Picked). plan_of l id) plans-are ∙ plan-is id apart (picked plan p m) (Memᴰ.map (picked plan p) i) (sym (has-plan m i) ∙ h)))

      pub plan-clear : (y : Picked) → plan_of (records_in (file_shape (table_at table) 5) s) id ≡ Some y → (q : List ℕ) × ClearPlan q × (y ≡ pick plan (part_tree q))
      plan-clear y e =
          let (m, i, h) = plan-among id (picked plan p) (items_of p) y (ap (λ (l : List Picked). plan_of l id) (sym plans-are) ∙ e) in (item_of p m, item-clear m i, h)

-- so the plan of an id in a clean file is clear
pub found-clear : (table : ℕ) (s id : List ℕ) (y : Picked) → clean_of (table_at table) 5 s ≡ unbroken → plan_of (records_in (file_shape (table_at table) 5) s) id ≡ Some y
    → (q : List ℕ) × ClearPlan q × (y ≡ pick plan (part_tree q))
found-clear table s id y c e =
    by_test (eqb (length s) 0)
    (λ t. let n : None ≡ Some y = sym (plans-absent table s id (eqb-true _ _ t)) ∙ e in let z : ◌≡◌ {A = ℕ} 0 1 = cc in absurd (omega arith))
    (λ t. let k = plans-sound table refl s (eqb-false _ _ t) c in plan-clear table refl k (plans-from table refl k) id y e)

-- the question, by what is found of the ride and of the file
module _ (t : Table) (s id : List ℕ) (seconds metres : ℕ) where
  pub quote-long : short seconds metres ≡ false → refused 4 ≡ quote_of t s id seconds metres
  unfolding quote_of
  quote-long e = rw (quote_of, e)

  pub quote-of : short seconds metres ≡ true → (x : Outcome) → x ≡ clean_of t 5 s
      → of_clean x (clean_quote (records_in (file_shape t 5) s) id seconds metres) ≡ quote_of t s id seconds metres
  unfolding quote_of
  quote-of e x h = rw (quote_of, e, h)
