-- All records are noted once those that are entered are in order: what stands at a place of the order is what was entered of the record there, but for the
-- marks; and the search in the order finds a record with an id just where there is one.
use mathlib.Core.Bool.{Bool, true, false}
use mathlib.Core.List.Memᴰ
use mathlib.Core.List.{List, [], ◌∷◌, map, Memᴰ}
use mathlib.Core.Logic.{⊎_elim}
use mathlib.Core.Path.{◌≡◌, refl, sym, ap, subst, ◌∙◌}
use Prim.Native.Nat.{ℕ, zero, suc, ◌+◌, ◌-◌, ◌/◌, ◌%◌, ◌<◌}
use native.Mathlib.Decide.{ℕ_discrete}
use native.Mathlib.Omega.{arith}
use lib.Dec.{eqb}
use lib.ListN.{length, get_or, length-map}
use Rattle.limits.specs.Ceilings.{records}
use Rattle.notation.specs.Choice.{◌⇒◌else◌, ◌and◌}
use Rattle.notation.proofs.Booleans.{by_test, true-false}
use Rattle.sorting.specs.Sorting.{sorted, numbers}
use Rattle.sorting.specs.Ids.{id_at, not_after, Ordered}
use Rattle.sorting.specs.Search.{Finds}
use Rattle.sorting.specs.Repeats as sorting
use Rattle.sorting.specs.inner.Keys.{Keyed}
use Rattle.sorting.specs.inner.Halves.{found_by, Ascending}
use Rattle.sorting.proofs.Sorts.{numbers-length, sorted-length}
use Rattle.sorting.proofs.Alike.{ordered-alike}
use Rattle.sorting.proofs.Orders.{stands, is_record, ascending}
use Rattle.sorting.proofs.Keying.{keyed-alike, keyed-moved}
use Rattle.sorting.proofs.Finding.{finds_by-keys}
use Rattle.walk.specs.declared.Item.{Item}
use Rattle.walk.specs.Walk.{items_of}
use Rattle.walk.proofs.Parts.{item_of}
use Rattle.ids.specs.inner.Ids.{text_or, id_text, ids_of, has_id, record_bytes, passing, meeting, any_meets, first_repeat}
use Rattle.ids.specs.inner.Notes.{start_at, member_start, pass_at, skip_in, bit, Entry, Noted, in_order, record_at, id_in_order, Spread, Indexed}
use Rattle.ids.specs.inner.Spread.{Sorted}
use Rattle.ids.specs.inner.Known.{probe, RecordOf}
use Rattle.ids.proofs.Entering.{entry_at}
use Rattle.ids.proofs.Firsts.{has-text, text-has, no-has, first-same}
use Rattle.ids.proofs.Spreads.{spread-marked}
use Rattle.std.specs.Prelude.{Some, None}

-- some record is met
module _ (sheet : ℕ) (tested : Bool) (id : List ℕ) (rs : List (List ℕ)) where
  pub any_met : (k n : ℕ) → k < n → meeting sheet tested id (get_or rs k []) ≡ true → any_meets sheet tested id rs n ≡ true
  unfolding any_meets
  any_met k zero h e = absurd (omega arith)
  any_met k (suc n) h e =
      elim (ℕ_discrete k n) [
        | yes z ↦ let t : meeting sheet tested id (get_or rs n []) ≡ true = ap (λ (x : ℕ). meeting sheet tested id (get_or rs x [])) (sym z) ∙ e in rw (any_meets, t)
        | no z ↦
            let ih = any_met k n (omega arith) e in
            by_test (meeting sheet tested id (get_or rs n [])) (λ t. rw (any_meets, t)) λ t. rw (any_meets, t) ih
      ]

  pub any-one : (n : ℕ) → any_meets sheet tested id rs n ≡ true → (k : ℕ) × (k < n) × (meeting sheet tested id (get_or rs k []) ≡ true)
  unfolding any_meets
  any-one zero e = true-false e refl
  any-one (suc n) e =
      by_test (meeting sheet tested id (get_or rs n [])) (λ t. (n, omega arith, t)) λ t.
      let w = any-one n (rw (any_meets, t) at e) in let h = w.1 in (w.0, omega arith, w.2)

  meeting-has : (q : List ℕ) → meeting sheet tested id q ≡ true → has_id sheet id q ≡ true
  meeting-has q e = by_test (has_id sheet id q) (λ t. t) λ t. true-false e (ap (λ (b : Bool). b and (tested ⇒ passing sheet q else true)) t)

  pub any_none : (n : ℕ) → ((k : ℕ) → k < n → has_id sheet id (get_or rs k []) ≡ true → ⊥) → any_meets sheet tested id rs n ≡ false
  any_none n none = by_test (any_meets sheet tested id rs n) (λ t. let w = any-one n t in absurd (none w.0 w.1 (meeting-has (get_or rs w.0 []) w.2))) λ t. t

-- a list that is sorted is an order
pub sorts : (ids : ℕ → List ℕ) (n : ℕ) {x : List ℕ} → x ≡ sorted (not_after ids) (numbers 0 n) → (length x ≡ n) × Ordered ids x
sorts ids n e =
    let l = ap length e ∙ sorted-length (not_after ids) (numbers 0 n) ∙ numbers-length 0 n in (l, e ∙ ap (λ (k : ℕ). sorted (not_after ids) (numbers 0 k)) (sym l))

bit-zero : (b : Bool) → (bit b ≡ 1 → ⊥) → bit b ≡ 0
bit-zero true n = absurd (n refl)
bit-zero false n = refl

pub bit_test : (b : Bool) (x : ℕ) → x ≡ bit b → eqb x 1 ≡ b
bit_test true x e = ap (λ (y : ℕ). eqb y 1) e
bit_test false x e = ap (λ (y : ℕ). eqb y 1) e

-- the order of a file's records has them all
module _ (sheet : ℕ) (p : List ℕ) where
  pub order-long : length (in_order sheet p) ≡ length (items_of p)
  unfolding in_order
  order-long = sorted-length (not_after (ids_of sheet p)) (numbers 0 (length (items_of p))) ∙ numbers-length 0 (length (items_of p))

  pub in_order_lem : Ordered (ids_of sheet p) (in_order sheet p)
  unfolding in_order
  in_order_lem = ap (λ (k : ℕ). sorted (not_after (ids_of sheet p)) (numbers 0 k)) (sym order-long)

  pub record_inside : (i : ℕ) → i < length (items_of p) → record_at sheet p i < length (items_of p)
  record_inside i h = omega (arith, is_record (ids_of sheet p) (in_order sheet p) in_order_lem i (omega (arith, h, order-long)), order-long)

  -- each has its place
  place_of : (k : ℕ) → k < length (items_of p) → (i : ℕ) × (i < length (items_of p)) × (record_at sheet p i ≡ k)
  place_of k h = let v = stands (ids_of sheet p) (in_order sheet p) in_order_lem k (omega (arith, h, order-long)) in (v.0, omega (arith, v.1, order-long), v.2)

module _ {sheet : ℕ} {p first notes : List ℕ} {n : ℕ} (w : Noted sheet p n first) (all : n ≡ length (items_of p)) (s : Sorted p n first notes) where
  long : length s.order ≡ length (items_of p)
  long = s.long ∙ all

  text : (k : ℕ) → k < length s.order → id_at p first k ≡ ids_of sheet p k
  text k h = w.texts k (omega (arith, h, s.long))

  -- the order is that of the definition
  here : (i : ℕ) → get_or s.order i 0 ≡ record_at sheet p i
  unfolding in_order
  here i =
      ap (λ (l : List ℕ). get_or l i 0)
      (ordered-alike (id_at p first) (ids_of sheet p) s.order text s.ordered ∙ ap (λ (k : ℕ). sorted (not_after (ids_of sheet p)) (numbers 0 k)) long)

  within : (i : ℕ) → i < length (items_of p) → get_or s.order i 0 < n
  within i h = omega (arith, is_record (id_at p first) s.order s.ordered i (omega (arith, h, long)), s.long)

  -- the marks
  spread_at : (k : ℕ) → k < length (items_of p) → Spread sheet p (pass_at s.between k) k
  spread_at k h given =
      let id = ids_of sheet p k in let rs = record_bytes p in
      let inside : k < length s.order = omega (arith, h, long) in
      by_test (any_meets sheet true id rs (length (items_of p)))
      (λ t.
      let v = any-one sheet true id rs (length (items_of p)) t in
      let q = get_or rs v.0 [] in
      let here : v.0 < length s.order = omega (arith, v.1, long) in
      let has = meeting-has sheet true id rs q v.2 in
      let pass : passing sheet q ≡ true = sym (ap (λ (b : Bool). b and passing sheet q) has) ∙ v.2 in
      spread-marked p s.order first (omega (arith, s.long, w.few)) s.ordered s.between s.closed v.0 k here inside
      (subst (λ (x : List ℕ). 0 < length x) (sym (text k inside)) given)
      (text v.0 here ∙ has-text sheet id q has ∙ sym (text k inside))
      (w.tests v.0 (omega (arith, v.1, all)) ∙ ap bit pass)
      ∙ sym (ap bit t))
      λ t.
      let unmarked : pass_at s.between k ≡ 1 → ⊥ = λ e.
      let v = s.closed.marks.from k inside e in let q = get_or rs v.0 [] in
      let h₀ : v.0 < n = omega (arith, v.1, s.long) in
      let same : ids_of sheet p v.0 ≡ id = sym (text v.0 v.1) ∙ v.2 ∙ text k inside in
      let pass : passing sheet q ≡ true = sym (bit_test (passing sheet q) (pass_at first v.0) (w.tests v.0 h₀)) ∙ ap (λ (x : ℕ). eqb x 1) v.3 in
      let met : meeting sheet true id q ≡ true = ap (λ (b : Bool). b and passing sheet q) (text-has sheet id q given same) ∙ pass in
      true-false (any_met sheet true id rs v.0 (length (items_of p)) (omega (arith, h₀, all)) met) t in
      let stays = s.closed.marks.other k unmarked in
      let was = w.tests k (omega (arith, h, all)) in
      stays ∙ was ∙ bit-zero (passing sheet (get_or rs k [])) (λ e. unmarked (stays ∙ was ∙ e)) ∙ sym (ap bit t)

  -- what stands at the place i
  module _ (i : ℕ) (h : i < length (items_of p)) where
    abbrev k : ℕ
    k = get_or s.order i 0

    in_list : i < length s.order
    in_list = omega (arith, h, long)

    start_is : start_at notes i ≡ start_at first k
    start_is = let g = within i h in let f = w.few in s.settled.starts i in_list ∙ s.closed.marks.same (records + get_or s.order i 0) (omega arith)

    entry_is : Entry sheet p (get_or (record_bytes p) (record_at sheet p i) []) (start_at notes i) (member_start notes i)
    entry_is =
        subst (λ (x : ℕ). Entry sheet p (get_or (record_bytes p) x []) (start_at notes i) (member_start notes i)) (here i)
        (entry_at start_is (ap (λ (x : ℕ). x / 2) (s.settled.marks i in_list) ∙ s.closed.marks.members k) (w.entries k (within i h)))

    spread-is : Spread sheet p (pass_at notes i) (record_at sheet p i)
    spread-is =
        subst (Spread sheet p (pass_at notes i)) (here i) (λ given. ap (λ (x : ℕ). x % 2) (s.settled.marks i in_list) ∙ spread_at k (omega (arith, within i h, all)) given)

  keyed-is : Keyed (id_in_order sheet p) (length (items_of p)) (skip_in notes) notes
  keyed-is =
      let moved = keyed-moved (keyed-alike s.keyed w.texts) (λ i. get_or s.order i 0) (λ i h. within i (omega (arith, h, all))) (λ i h. s.settled.first i (omega (arith, h, s.long))) in
      let all_moved = subst (λ (x : ℕ). Keyed (λ i. ids_of sheet p (get_or s.order i 0)) x s.front notes) all moved in
      keyed-alike
      (subst (λ (x : ℕ). Keyed (λ i. ids_of sheet p (get_or s.order i 0)) (length (items_of p)) x notes) (sym s.settled.skip) all_moved)
      (λ i h. ap (ids_of sheet p) (here i))

  pub indexed : Indexed sheet p notes
  indexed =
      record {
        long = s.settled.long;
        few = omega (arith, w.few, all);
        count = s.settled.count ∙ long;
        keyed = keyed-is;
        entries = entry_is;
        spread = spread-is;
      }

  pub first-is : sorting.first_repeat (id_at p first) n ≡ first_repeat sheet (record_bytes p)
  unfolding record_bytes
  first-is =
      let k : length (record_bytes p) ≡ n = length-map (items_of p) (item_of p) ∙ sym all in
      ap (sorting.first_repeat (id_at p first)) (sym k) ∙ first-same sheet (record_bytes p) (id_at p first) (λ j h. w.texts j (omega (arith, h, k)))

-- an item among others, by its place
item-at : (f : Item → List ℕ) (l : List Item) (m : Item) → Memᴰ m l → (k : ℕ) × (k < length l) × (get_or (map f l) k [] ≡ f m)
item-at f [] m i = absurd (Memᴰ.not-nil i)
item-at f (x ∷ l) m i =
    ⊎_elim (λ e. (0, omega arith, ap f (sym e))) (λ j. let v = item-at f l m j in let h = v.1 in (suc v.0, omega arith, v.2)) (Memᴰ.cases_cons i)

-- what a search finds
module _ {sheet : ℕ} {p notes : List ℕ} (w : Indexed sheet p notes) (id : List ℕ) (met : ℕ) (is : met ≡ (found_by (probe sheet p notes id) 14 0 (length (items_of p))).met) where
  told : Finds (id_in_order sheet p) (length (items_of p)) id met
  told =
      let f = w.few in
      subst (Finds (id_in_order sheet p) (length (items_of p)) id) (sym is)
      (finds_by-keys (subst (Ascending (id_in_order sheet p)) (order-long sheet p) (ascending (ids_of sheet p) (in_order sheet p) (in_order_lem sheet p))) w.keyed id _ refl (omega arith))

  -- no record has the id
  none_has : met ≡ 0 → (k : ℕ) → k < length (items_of p) → has_id sheet id (get_or (record_bytes p) k []) ≡ true → ⊥
  none_has e k h t =
      let v = place_of sheet p k h in told.none e v.0 v.1 (ap (ids_of sheet p) v.2 ∙ has-text sheet id (get_or (record_bytes p) k []) t)

  pub found-no : (tested : Bool) → met ≡ 0 → false ≡ any_meets sheet tested id (record_bytes p) (length (items_of p))
  found-no tested e = sym (any_none sheet tested id (record_bytes p) (length (items_of p)) (none_has e))

  pub found_nowhere : met ≡ 0 → RecordOf sheet p id None
  unfolding record_bytes
  found_nowhere e m i =
      by_test (has_id sheet id (item_of p m))
      (λ t. let v = item-at (item_of p) (items_of p) m i in absurd (none_has e v.0 v.1 (ap (has_id sheet id) v.2 ∙ t))) λ t. t

  module _ (given : 0 < length id) (some : met ≡ 0 → ⊥) where
    one : (met - 1 < length (items_of p)) × (id_in_order sheet p (met - 1) ≡ id)
    one = let z : met ≡ met - 1 + 1 = omega (arith, some) in told.here (met - 1) z

    pub found-room : met - 1 < records
    found-room = omega (arith, one.0, w.few)

    has_it : has_id sheet id (get_or (record_bytes p) (record_at sheet p (met - 1)) []) ≡ true
    has_it = text-has sheet id (get_or (record_bytes p) (record_at sheet p (met - 1)) []) given one.1

    pub found-yes : true ≡ any_meets sheet false id (record_bytes p) (length (items_of p))
    found-yes =
        sym (any_met sheet false id (record_bytes p) (record_at sheet p (met - 1)) (length (items_of p)) (record_inside sheet p (met - 1) one.0) (ap (λ (b : Bool). b and true) has_it))

    pub found_passes : eqb (pass_at notes (met - 1)) 1 ≡ any_meets sheet true id (record_bytes p) (length (items_of p))
    found_passes =
        bit_test _ _
        (w.spread (met - 1) one.0 (subst (λ (x : List ℕ). 0 < length x) (sym one.1) given)
        ∙ ap (λ (x : List ℕ). bit (any_meets sheet true x (record_bytes p) (length (items_of p)))) one.1)

    pub found-start : {start : ℕ} → start ≡ start_at notes (met - 1) → RecordOf sheet p id (Some start)
    unfolding id_text
    found-start {start} e = go (w.entries (met - 1) one.0)
      where
        go : Entry sheet p (get_or (record_bytes p) (record_at sheet p (met - 1)) []) (start_at notes (met - 1)) (member_start notes (met - 1)) → RecordOf sheet p id (Some start)
        go (Entry.without none h) = absurd (omega (arith, given, ap length (sym (ap text_or none) ∙ one.1)))
        go (Entry.within some m among at starts u) = (m, among, starts ∙ sym e, ap (has_id sheet id) at ∙ has_it)

-- no record has the id of no bytes
pub none-nowhere : (sheet : ℕ) (p : List ℕ) {id : List ℕ} → id ≡ [] → RecordOf sheet p id None
none-nowhere sheet p e m i = ap (λ (x : List ℕ). has_id sheet x (item_of p m)) e ∙ no-has sheet (item_of p m)

pub none_met : (sheet : ℕ) (tested : Bool) (id : List ℕ) (rs : List (List ℕ)) (n : ℕ) → id ≡ [] → false ≡ any_meets sheet tested id rs n
none_met sheet tested id rs n e = sym (any_none sheet tested id rs n (λ k h t. true-false t (ap (λ (x : List ℕ). has_id sheet x (get_or rs k [])) e ∙ no-has sheet (get_or rs k []))))
