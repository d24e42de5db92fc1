-- A file of the set that has records and is through stages A and B: in the rest of its bytes from its records on stand the records that are picked of it, each of them an object,
-- and the first id that repeats there is the least of its repeats. An absent file has no records either way.
use mathlib.Core.Bool.{true}
use mathlib.Core.List.Memᴰ
use mathlib.Core.List.{List, [], ◌∷◌, Memᴰ}
use mathlib.Core.Path.{◌≡◌, refl, sym, ap, subst, ◌∙◌}
use Prim.Native.Nat.{ℕ, ◌-◌, ◌<◌}
use native.Mathlib.Omega.{arith}
use lib.Dec.{ltb}
use lib.ListN.{length, drop, length-map, length-take}
use borrow.Author.Tests.{lt-ltb}
use Rattle.notation.proofs.Booleans.{by_test}
use Rattle.json_text.specs.Text.{syntax_of}
use Rattle.json_text.specs.Tree as tree
use Rattle.json_text.specs.Tree.{Json, Members}
use Rattle.walk.specs.declared.Item.{Item}
use Rattle.walk.specs.Walk.{items_from, items_of}
use Rattle.walk.specs.Part.{part_tree}
use Rattle.walk.proofs.Parts.{item_of}
use Rattle.walk.proofs.Wholes.{whole-some}
use Rattle.walk.proofs.Files.{passed}
use Rattle.schema.specs.Shape.{Shape, Table, file_shape}
use Rattle.schema.specs.Tables.{table_at, sheets, sheet_shape, sheet_of}
use Rattle.schema.specs.Records.{Key, record_shape, has_records, id_key, has_ids}
use Rattle.schema.specs.Pick.{Picked, pick}
use Rattle.schema.proofs.SheetShapes.{sheet_shape_lem}
use Rattle.fault.specs.Fault.{least}
use Rattle.fault.proofs.Leasts.{none-least}
use Rattle.fault.specs.declared.Place.{Place}
use Rattle.judge.specs.Faults.{faults, file_faults}
use Rattle.document.specs.inner.Spans.{RecordsFrom}
use Rattle.document.proofs.Ways.{records-of}
use Rattle.document.specs.inner.Items.{picked_items}
use Rattle.document.proofs.Rests.{none_from, rest-is, rest-along, rest-picked}
use Rattle.ids.specs.inner.Ids.{AllIdsOnce, record_bytes, repeat_from, first_repeat}
use Rattle.clean.specs.Clean as clean
use Rattle.clean.specs.Clean.{records_of, records_in, repeats_from, repeats_in, repeats}
use Rattle.clean.proofs.Faultless.{object-there}
use Rattle.clean.proofs.Repeated.{Held, held, tree_is, repeats-none, repeats-are}
use Rattle.cross.specs.Stage.{file_of}
use Rattle.cross.specs.inner.Judged.{file_by}
use Rattle.cross.specs.inner.Stage.{PassesAB}
use Rattle.cross.specs.inner.Recorded.{Recorded, repeat_of, ids_least}
use Rattle.std.specs.Prelude.{None, Ok, Option, Some}

-- a file is there where it has bytes
pub here-is : (t : Table) (n : ℕ) (s : List ℕ) → ltb 0 (length s) ≡ (file_of t n s).here
here-is t n [] = refl
here-is t n (b ∷ s) = lt-ltb 0 (length (b ∷ s)) (omega arith)

-- what a set has of a file is a function of the file's shape; and so the same by its table and by its sheet
same-file : (t u : Table) (n k : ℕ) → file_shape t n ≡ file_shape u k → (s : List ℕ) → file_of t n s ≡ file_of u k s
same-file t u n k e [] = refl
same-file t u n k e (b ∷ s) = λ i. record { here = true; records = records_in (e i) (b ∷ s) }

pub file_sheet : (table file : ℕ) (s : List ℕ) → file_of (table_at table) file s ≡ file_of sheets (sheet_of table file) s
file_sheet table file s = same-file (table_at table) sheets file (sheet_of table file) (sym (sheet_shape_lem table file)) s

-- what is picked of the file s of the sheet n, by the rest p from its records on
pub record InBytes (n : ℕ) (s p : List ℕ) : Type 0 where
  pub recorded : Recorded p
  pub is : file_of sheets n s ≡ file_by n p
  pub repeated : least (repeats_in (sheet_shape n) (picked_items (record_shape n) p)) ≡ ids_least n p
  pub singles : has_ids n ≡ true → AllIdsOnce n p
  pub sound : (m : Item) → Memᴰ m (items_of p)
      → (q : Place) × (φ : ℕ) × (faults (record_shape n) q φ (pick (record_shape n) (part_tree (item_of p m))) ≡ [])

no-repeats : (n : ℕ) → least (repeats_in (sheet_shape n) []) ≡ None
unfolding repeats_from
no-repeats n = go (id_key n)
  where
    go : (o : Option Key) → least (elim o [ None ↦ [] | Some k ↦ repeats_from k.field 1 [] [] ]) ≡ None
    go None = none-least [] refl
    go (Some k) = none-least [] refl

absent-bytes : (n : ℕ) → InBytes n [] []
unfolding repeats_from ids_least repeat_of first_repeat repeat_from record_bytes items_of items_from
absent-bytes n =
    record {
      recorded = record { short = omega arith; objects = λ m i. absurd (Memᴰ.not-nil i); few = omega arith; along = λ h. absurd (omega arith) };
      is = refl;
      repeated = no-repeats n ∙ by_test (has_ids n) (λ t. rw (ids_least, repeat_of, t)) (λ t. rw (ids_least, repeat_of, t));
      singles = λ h m i. absurd (Memᴰ.not-nil i);
      sound = λ m i. absurd (Memᴰ.not-nil i);
    }

-- A file that is there, with the rest p from its records on.
module _ (n : ℕ) (h : has_records n ≡ true) (b : ℕ) (r : List ℕ) (t : PassesAB n (b ∷ r)) {p : List ℕ} (f : RecordsFrom n (b ∷ r) p) where
  abbrev s : List ℕ
  s = b ∷ r

  reads : syntax_of s ≡ Ok tt
  reads = t.reads (λ e. omega arith)

  through : Held n s (clean.tree_of s)
  through =
      let v = passed s reads in
      rw (tree_is s v) (held n h s v (ap (file_faults (sheet_shape n)) (sym (tree_is s v)) ∙ t.faultless (λ e. omega arith)))

  are-picked : through.list ≡ picked_items (record_shape n) p
  are-picked = rest-picked f reads through.there

  repeated-is : least (repeats (sheet_shape n) (pick (sheet_shape n) (clean.tree_of s))) ≡ ids_least n p
  unfolding ids_least repeat_of
  repeated-is =
      let None = none-least _ (t.faultless (λ e. omega arith)) in
      by_test (has_ids n) (λ u. rw (ids_least, repeat_of, u) (repeats-are n s reads None u f).names) (λ u. rw (ids_least, repeat_of, u) (repeats-none n u _))

  -- records are objects
  record_object : (q : Place) (φ : ℕ) (x : Json) → faults (record_shape n) q φ (pick (record_shape n) x) ≡ [] → (ms : Members) × (x ≡ tree.object ms)
  record_object q φ x =
      let d = records-of n h in
      subst (λ (σ : Shape). faults σ q φ (pick σ x) ≡ [] → (ms : Members) × (x ≡ tree.object ms)) (sym d.object)
      (λ e. let o = object-there q φ d.rows x e in (o.0, o.1))

  abbrev picked_item : Item → Picked
  picked_item m = pick (record_shape n) (part_tree (item_of p m))

  sound-item : (m : Item) → Memᴰ m (items_of p) → (q : Place) × (φ : ℕ) × (faults (record_shape n) q φ (picked_item m) ≡ [])
  sound-item m j =
      let y = through.sound (picked_item m) (subst (Memᴰ (picked_item m)) (sym are-picked) (Memᴰ.map picked_item j)) in
      (y.0, through.field, y.1)

  -- there are bytes from the records on
  rest_some : 0 < length p
  rest_some =
      let r = through.there in
      omega (arith, ap length (rest-is f reads r), whole-some r.there.whole, length-take (r.end - r.start) (drop r.start s))

  records-are : records_of (sheet_shape n) (pick (sheet_shape n) (clean.tree_of s)) ≡ picked_items (record_shape n) p
  records-are = through.are ∙ are-picked

  there-bytes : InBytes n s p
  unfolding repeats
  there-bytes =
      record {
        recorded =
            record {
              short = omega (arith, f.inside, (passed s reads).short);
              objects = λ m j. let y = sound-item m j in record_object y.0 y.1 _ y.2;
              few = omega (arith, through.few, ap length are-picked ∙ length-map (items_of p) picked_item);
              along = λ k. rest-along f reads through.there;
            };
        is = λ j. record { here = sym (lt-ltb 0 (length p) rest_some) j; records = records-are j };
        repeated = ap (λ (l : List Picked). least (repeats_in (sheet_shape n) l)) (sym records-are) ∙ repeated-is;
        singles = λ j. (repeats-are n s reads (none-least _ (t.faultless (λ e. omega arith))) j f).singles;
        sound = sound-item;
      }

pub file-bytes : (n : ℕ) → has_records n ≡ true → (s : List ℕ) → PassesAB n s → {p : List ℕ} → RecordsFrom n s p → InBytes n s p
file-bytes n h [] t f = subst (InBytes n []) (sym (none_from f refl)) (absent-bytes n)
file-bytes n h (b ∷ r) t f = there-bytes n h b r t f
