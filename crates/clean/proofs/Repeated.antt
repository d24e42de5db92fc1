-- Kind 12 of a file without a stage B fault: its records in bytes have the ids that their picked values have, so the first record whose id one before
-- it has in bytes is that of the least fault of all repeats.
use mathlib.Core.Bool.{true, false}
use mathlib.Core.List.Memᴰ
use mathlib.Core.List.{List, [], ◌∷◌, map, Memᴰ}
use mathlib.Core.Logic.{⊎_elim}
use mathlib.Core.Path.{◌≡◌, refl, sym, ap, subst, ◌∙◌}
use Prim.Native.Nat.{ℕ, ◌+◌, ◌≤◌}
use native.Mathlib.Omega.{arith}
use lib.ListN.{length, length-map}
use borrow.Author.Tests.{leb-true, ne_eqb}
use Rattle.limits.specs.Ceilings as ceiling
use Rattle.notation.specs.Choice.{◌⇒◌else◌}
use Rattle.notation.proofs.Booleans.{by_test}
use Rattle.word.specs.Kinds.{id_twice}
use Rattle.json_text.specs.Tree.{Json}
use Rattle.json_text.specs.Text.{syntax_of}
use Rattle.text.specs.Text.{same}
use Rattle.walk.specs.declared.Item.{Item}
use Rattle.walk.specs.Walk.{items_of}
use Rattle.walk.specs.inner.Along.{AlongItems}
use Rattle.walk.specs.Part.{part_tree}
use Rattle.walk.proofs.Parts.{item_of, items-whole}
use Rattle.walk.proofs.Files.{Passed, passed}
use Rattle.schema.specs.Shape as shape
use Rattle.schema.specs.Tables.{sheet_shape}
use Rattle.schema.specs.Records.{record_shape, has_records, has_ids}
use Rattle.schema.specs.Pick.{Picked, items, pick, list_of}
use Rattle.schema.proofs.Recorded.{no_key, ids-recorded}
use Rattle.fault.specs.declared.Fault.{Fault}
use Rattle.fault.specs.Fault.{fault, least, top}
use Rattle.fault.proofs.Order.{later_record}
use Rattle.fault.proofs.Leasts.{least-one, least-none, none-least, least-early}
use Rattle.rings.specs.Rings as rings
use Rattle.fault.specs.declared.Place.{Place}
use Rattle.judge.specs.Faults.{faults, file_faults_by, file_faults}
use Rattle.document.specs.Document as document
use Rattle.document.specs.Document.{elements_of, along}
use Rattle.document.specs.Spans.{records_span}
use Rattle.document.specs.inner.Spans.{RecordsFrom}
use Rattle.document.proofs.Ways.{records-of}
use Rattle.document.proofs.Rests.{rest-is, rest-along, rest-picked}
use Rattle.document.proofs.Records.{Records, records_stand}
use Rattle.document.specs.inner.Items.{picked_items}
use Rattle.ids.specs.inner.Ids.{id_field, id_of, AllIdsOnce, record_bytes, any_has, repeated, repeat_from, first_repeat}
use Rattle.ids.proofs.Passing.{repeated-none, repeated-some}
use Rattle.ids.proofs.Picked.{Identified, id_of_lem, id_picked}
use Rattle.clean.specs.Clean as clean
use Rattle.clean.specs.Clean.{records_of, used_before, repeated_id, repeats_from, repeats_in, repeats}
use Rattle.clean.specs.inner.Blamed.{blamed}
use Rattle.clean.proofs.Faultless.{array-there, items-there, demands_there}
use Rattle.clean.proofs.IdsOnce.{single_id}
use Rattle.std.specs.Prelude.{None, Ok, Option, Some}

-- Repeats, by picked records and by bytes.

-- these picked records have the ids of these records in bytes
data Named (f file : ℕ) : List Picked → List (List ℕ) → Type 0 where
  no_name : Named f file [] []
  one_name : {y : Picked} {q : List ℕ} {ys : List Picked} {qs : List (List ℕ)} → id_of file q ≡ document.text f y → Named f file ys qs → Named f file (y ∷ ys) (q ∷ qs)

named-each : (f file : ℕ) (g : Item → Picked) (h : Item → List ℕ) (ms : List Item) → ((m : Item) → Memᴰ m ms → id_of file (h m) ≡ document.text f (g m))
    → Named f file (map g ms) (map h ms)
named-each f file g h [] e = no_name
named-each f file g h (m ∷ ms) e = one_name (e m (Memᴰ.head refl)) (named-each f file g h ms (λ k i. e k (Memᴰ.tail i)))

module _ (f file : ℕ) where
  used_one : (id : List ℕ) (y : Picked) (q : List ℕ) (ys : List Picked) (qs : List (List ℕ)) (o : Option (List ℕ)) → document.text f y ≡ o → id_of file q ≡ o
      → used_before f ys id ≡ (any_has file id qs ⇒ id_twice ∷ [] else []) → used_before f (y ∷ ys) id ≡ (any_has file id (q ∷ qs) ⇒ id_twice ∷ [] else [])
  unfolding used_before any_has
  used_one id y q ys qs None e k ih = rw (used_before, e, any_has, k) ih
  used_one id y q ys qs (Some t) e k ih =
      by_test (same t id) (λ h. rw (used_before, e, any_has, k, h)) (λ h. rw (used_before, e, any_has, k, h) ih)

  used_any : {ys : List Picked} {qs : List (List ℕ)} → Named f file ys qs → (id : List ℕ) → used_before f ys id ≡ (any_has file id qs ⇒ id_twice ∷ [] else [])
  unfolding used_before any_has
  used_any no_name id = refl
  used_any (one_name {y} {q} {ys} {qs} e r) id = used_one id y q ys qs (id_of file q) (sym e) refl (used_any r id)

  repeated-one : {ps : List Picked} {qs : List (List ℕ)} → Named f file ps qs → (n : ℕ) (y : Picked) (q : List ℕ) (o : Option (List ℕ)) → document.text f y ≡ o → id_of file q ≡ o
      → repeated_id f n ps y ≡ (repeated file qs q ⇒ fault n f 0 id_twice ∷ [] else [])
  unfolding repeated_id
  repeated-one {qs = qs} a n y q None e k = rw (repeated_id, e, sym (repeated-none file qs q k))
  repeated-one {qs = qs} a n y q (Some t) e k =
      let is = sym (repeated-some file qs q t k) in
      by_test (any_has file t qs) (λ h. rw (repeated_id, e, used_any a t, is, h)) (λ h. rw (repeated_id, e, used_any a t, is, h))

  -- a record more: where its id repeats the fault is that of its number
  module _ {ps : List Picked} {qs : List (List ℕ)} (a : Named f file ps qs) (n : ℕ) (y : Picked) (q : List ℕ) (e : id_of file q ≡ document.text f y) (ys : List Picked) where
    step-here : repeated file qs q ≡ true → repeats_from f n ps (y ∷ ys) ≡ fault n f 0 id_twice ∷ repeats_from f (n + 1) (y ∷ ps) ys
    unfolding repeats_from
    step-here h = rw (repeats_from, repeated-one a n y q (id_of file q) (sym e) refl, h)

    step-later : repeated file qs q ≡ false → repeats_from f n ps (y ∷ ys) ≡ repeats_from f (n + 1) (y ∷ ps) ys
    unfolding repeats_from
    step-later h = rw (repeats_from, repeated-one a n y q (id_of file q) (sym e) refl, h)

  -- The least of them.

  later : {ps ys : List Picked} {qs rs : List (List ℕ)} → Named f file ps qs → Named f file ys rs → (n : ℕ) (b : Fault) → Memᴰ b (repeats_from f n ps ys) → n ≤ b.«record»
  unfolding repeats_from
  later a no_name n b i = absurd (Memᴰ.not-nil i)
  later {qs = qs} a (one_name {y} {q} {ys} e r) n b i =
      let ih = later (one_name e a) r (n + 1) b in
      by_test (repeated file qs q)
      (λ h.
      ⊎_elim (λ k. omega (arith, ap (λ (z : Fault). z.«record») k)) (λ k. let m : n + 1 ≤ b.«record» = ih k in omega arith)
      (Memᴰ.cases_cons (subst (Memᴰ b) (step-here a n y q e ys h) i)))
      (λ h. let m : n + 1 ≤ b.«record» = ih (subst (Memᴰ b) (step-later a n y q e ys h) i) in omega arith)

  least_repeat : {ps ys : List Picked} {qs rs : List (List ℕ)} → Named f file ps qs → Named f file ys rs → (n : ℕ) → 1 ≤ n
      → least (repeats_from f n ps ys) ≡ blamed f (repeat_from file n qs rs)
  unfolding repeats_from repeat_from
  least_repeat a no_name n h = none-least [] refl
  least_repeat {ps} {qs = qs} a (one_name {y} {q} {ys} e r) n h =
      let ih = least_repeat (one_name e a) r (n + 1) (omega arith) in
      let x = fault n f 0 id_twice in
      by_test (repeated file qs q)
      (λ t.
      ap least (step-here a n y q e ys t)
      ∙ least-early (x ∷ []) (repeats_from f (n + 1) (y ∷ ps) ys) x (least-one x) (λ b i. later_record x b (let m = later (one_name e a) r (n + 1) b i in omega arith))
      ∙ (rw (repeat_from, t, ne_eqb n 0 (λ z. omega arith))))
      (λ t. ap least (step-later a n y q e ys t) ∙ ih ∙ (rw (repeat_from, t)))

-- the records of an array: the first that repeats an id has the least fault
least_first : (file : ℕ) → has_ids file ≡ true → (p : List ℕ)
    → least (repeats_from (id_field file) 1 [] (picked_items (record_shape file) p)) ≡ blamed (id_field file) (first_repeat file (record_bytes p))
unfolding first_repeat record_bytes
least_first file h p =
    least_repeat (id_field file) file no_name
    (named-each (id_field file) file (λ m. pick (record_shape file) (part_tree (item_of p m))) (item_of p) (items_of p) (λ m j. id_picked file h (items-whole p m j)))
    1 (omega arith)

-- Files.

-- the records of a file without a stage B fault
pub record Held (n : ℕ) (s : List ℕ) (x : Json) : Type 0 where
  pub list : List Picked
  pub are : records_of (sheet_shape n) (pick (sheet_shape n) x) ≡ list
  pub there : Records s (records_span (sheet_shape n) s) (record_shape n) list
  pub few : length list ≤ ceiling.records
  pub field : ℕ
  pub sound : (y : Picked) → Memᴰ y list → (q : Place) × (faults (record_shape n) q field y ≡ [])

-- kind 12 by the array p of the records
pub record Repeats (n : ℕ) (s p : List ℕ) : Type 0 where
  pub short : length p ≤ ceiling.file_bytes
  pub few : length (items_of p) ≤ ceiling.records
  pub along : AlongItems p 1
  pub singles : AllIdsOnce n p
  pub names : least (repeats (sheet_shape n) (pick (sheet_shape n) (clean.tree_of s))) ≡ blamed (id_field n) (first_repeat n (record_bytes p))

pub held : (n : ℕ) → has_records n ≡ true → (s : List ℕ) (t : Passed s) → file_faults (sheet_shape n) t.tree ≡ [] → Held n s t.tree
unfolding file_faults_by records_of rings.count
held n h s t e =
    let r = records-of n h in
    let d = demands_there r.leads top 0 t.tree e in
    let a = array-there top d.1 shape.records (λ b c. refl) ceiling.records (record_shape n) d.0 d.3 in
    let way : along (map (λ k. k.field) r.way.keys) (pick (sheet_shape n) t.tree) ≡ Some (items a.0) = d.2 ∙ ap Some a.1 in
    record {
      list = list_of a.0;
      are = rw (records_of, r.is) (ap elements_of way);
      there = records_stand n r s t a.0 way;
      few = leb-true (rings.count a.0) ceiling.records a.2;
      field = d.1;
      sound = items-there top d.1 (λ q f y. faults (record_shape n) q f y) shape.records 0 a.0 a.3;
    }

-- Files whose records have no ids of their own, and numbers of no file.
pub repeats-none : (n : ℕ) → has_ids n ≡ false → (x : Picked) → least (repeats (sheet_shape n) x) ≡ None
unfolding repeats
repeats-none n h x = let none = no_key n h in rw (repeats, repeats_in, none) (none-least [] refl)

-- and the others
pub repeats-some : (n : ℕ) → Identified n → (x : Picked) → repeats (sheet_shape n) x ≡ repeats_from (id_field n) 1 [] (records_of (sheet_shape n) x)
unfolding repeats id_field
repeats-some n d x = rw (repeats, repeats_in, id_field, d.is)

pub tree_is : (s : List ℕ) (t : Passed s) → clean.tree_of s ≡ t.tree
unfolding clean.tree_of
tree_is s t = rw (clean.tree_of, t.reads)

-- A file that stages A and B pass.
module _ (n : ℕ) (s : List ℕ) (reads : syntax_of s ≡ Ok tt) (faultless : least (file_faults (sheet_shape n) (clean.tree_of s)) ≡ None) where
  none_found : (t : Passed s) → file_faults (sheet_shape n) t.tree ≡ []
  none_found t = ap (file_faults (sheet_shape n)) (sym (tree_is s t)) ∙ least-none _ faultless

  module _ (h : has_ids n ≡ true) where
    -- its rest from its records on is one
    pub records-same : {p q : List ℕ} → RecordsFrom n s p → RecordsFrom n s q → p ≡ q
    records-same f g =
        let t = passed s reads in let r = held n (ids-recorded n h) s t (none_found t) in rest-is f reads r.there ∙ sym (rest-is g reads r.there)

    -- of ids, by the array p of its records
    pub repeats-are : {p : List ℕ} → RecordsFrom n s p → Repeats n s p
    repeats-are {p} f =
        let t = passed s reads in let r = held n (ids-recorded n h) s t (none_found t) in
        let l : r.list ≡ picked_items (record_shape n) p = rest-picked f reads r.there in
        record {
          short = omega (arith, t.short, f.inside);
          few = omega (arith, r.few, ap length l ∙ length-map (items_of p) (λ m. pick (record_shape n) (part_tree (item_of p m))));
          along = rest-along f reads r.there;
          singles = λ m j.
              let g : Item → Picked = λ k. pick (record_shape n) (part_tree (item_of p k)) in
              let y = r.sound (g m) (subst (Memᴰ (g m)) (sym l) (Memᴰ.map g j)) in
              single_id n h (items-whole p m j) y.0 r.field y.1;
          names =
              let x = pick (sheet_shape n) (clean.tree_of s) in
              let are : records_of (sheet_shape n) x ≡ picked_items (record_shape n) p =
              ap (λ (y : Json). records_of (sheet_shape n) (pick (sheet_shape n) y)) (tree_is s t) ∙ r.are ∙ l in
              ap least (repeats-some n (id_of_lem n h) x ∙ ap (repeats_from (id_field n) 1 []) are) ∙ least_first n h p;
        }
