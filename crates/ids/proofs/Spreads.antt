-- Marks are handed on only between records with the same id, and records with one id stand side by side in the order: so once they are handed on along the
-- order and back, a record is marked just where some record with its id was.
use mathlib.Core.Bool.{Bool, true, false, not}
use mathlib.Core.List.{List}
use mathlib.Core.Logic.{◌⊎◌, inl, inr, ⊎_elim}
use mathlib.Core.Path.{◌≡◌, refl, sym, ap, ap₂, subst, ◌∙◌}
use Prim.Native.Nat.{ℕ, zero, suc, ◌+◌, ◌-◌, ◌*◌, ◌/◌, ◌%◌, ◌≤◌, ◌<◌}
use native.Mathlib.Decide.{ℕ_discrete}
use native.Mathlib.Omega.{arith}
use lib.Dec.{eqb, ltb}
use lib.ListN.{length, drop, get_or, set, length-set}
use lib.Seq.{get_or-set_same, get_or-set_other}
use borrow.Author.Tests.{eqb-true, eq-eqb, ne_eqb, ltb-true, ltb-false, lt-ltb}
use Rattle.limits.specs.Ceilings.{records}
use Rattle.notation.specs.Choice.{◌and◌}
use Rattle.notation.proofs.Booleans.{by_test, true-false}
use Rattle.text.specs.Text.{text_of}
use Rattle.text.specs.Ordering.{order_of}
use Rattle.text.proofs.Ordered.{turned, order-equal, order-turned}
use Rattle.sorting.specs.Ids.{id_at, Ordered}
use Rattle.sorting.specs.Repeats.{same_id}
use Rattle.sorting.specs.inner.Keys.{Tells}
use Rattle.sorting.proofs.Records.{by_cases}
use Rattle.sorting.proofs.Neighbours.{same-given, is-given, is_same}
use Rattle.sorting.proofs.Orders.{stands, is_record, two_records, no_greater}
use Rattle.ids.specs.inner.Notes.{size, member_start, pass_at}
use Rattle.ids.specs.inner.Spread.{handed, Alike, Marks, Onward, Back, Closed}

-- one mark handed on, by the tests
module _ (ids : ℕ → List ℕ) (notes : List ℕ) (from to : ℕ) where
  pub handed-yes : eqb (pass_at notes from) 1 ≡ true → eqb (pass_at notes to) 1 ≡ false → same_id ids from to ≡ true
      → set notes (2 * records + to) (get_or notes (2 * records + to) 0 + 1) ≡ handed ids notes from to
  unfolding handed
  handed-yes a b c = sym (rw (handed, a, b, c))

  pub handed-apart : eqb (pass_at notes from) 1 ≡ true → eqb (pass_at notes to) 1 ≡ false → same_id ids from to ≡ false → notes ≡ handed ids notes from to
  unfolding handed
  handed-apart a b c = sym (rw (handed, a, b, c))

  pub handed-marked : eqb (pass_at notes from) 1 ≡ true → eqb (pass_at notes to) 1 ≡ true → notes ≡ handed ids notes from to
  unfolding handed
  handed-marked a b = sym (rw (handed, a, b))

  pub handed-unmarked : eqb (pass_at notes from) 1 ≡ false → notes ≡ handed ids notes from to
  unfolding handed
  handed-unmarked a = sym (rw (handed, a))

-- one more marks what is not marked, and is no other place
marked_more : (v : ℕ) → (v % 2 ≡ 1 → ⊥) → ((v + 1) % 2 ≡ 1) × ((v + 1) / 2 ≡ v / 2)
marked_more v n = (omega arith, omega arith)

-- one mark handed on
module _ (ids : ℕ → List ℕ) (notes : List ℕ) (from to : ℕ) (long : length notes ≡ size) (room : to < records) where
  abbrev test : Bool
  test = eqb (pass_at notes from) 1 and not (eqb (pass_at notes to) 1) and same_id ids from to

  abbrev after : List ℕ
  after = handed ids notes from to

  abbrev mark : ℕ
  mark = get_or notes (2 * records + to) 0

  unhanded : test ≡ false → after ≡ notes
  unfolding handed
  unhanded t = rw (handed, t)

  is-handed : test ≡ true → after ≡ set notes (2 * records + to) (mark + 1)
  unfolding handed
  is-handed t = rw (handed, t)

  pub handed-long : length after ≡ size
  handed-long = by_test test (λ t. ap length (is-handed t) ∙ length-set notes (2 * records + to) (mark + 1) ∙ long) λ t. ap length (unhanded t) ∙ long

  pub handed-other : (i : ℕ) → (i ≡ 2 * records + to → ⊥) → get_or after i 0 ≡ get_or notes i 0
  handed-other i h =
      by_test test (λ t. ap (λ (l : List ℕ). get_or l i 0) (is-handed t) ∙ get_or-set_other notes (2 * records + to) i (mark + 1) 0 h) λ t. ap (λ (l : List ℕ). get_or l i 0) (unhanded t)

  -- another record's number
  apart : (k : ℕ) → (k ≡ to → ⊥) → get_or after (2 * records + k) 0 ≡ get_or notes (2 * records + k) 0
  apart k n = handed-other (2 * records + k) (λ y. n (omega arith))

  unset : test ≡ true → pass_at notes to ≡ 1 → ⊥
  unset t e =
      by_test (eqb (pass_at notes from) 1)
      (λ a. true-false t (ap₂ (λ (x y : Bool). x and not y and same_id ids from to) a (eq-eqb (pass_at notes to) 1 e)))
      λ a. true-false t (ap (λ (x : Bool). x and not (eqb (pass_at notes to) 1) and same_id ids from to) a)

  both : test ≡ true → (pass_at notes from ≡ 1) × (same_id ids from to ≡ true)
  both t =
      let u = ne_eqb (pass_at notes to) 1 (unset t) in
      by_test (eqb (pass_at notes from) 1)
      (λ a. (eqb-true (pass_at notes from) 1 a, sym (ap₂ (λ (x y : Bool). x and not y and same_id ids from to) a u) ∙ t))
      λ a. true-false t (ap (λ (x : Bool). x and not (eqb (pass_at notes to) 1) and same_id ids from to) a)

  set_is : test ≡ true → get_or after (2 * records + to) 0 ≡ mark + 1
  set_is t = ap (λ (l : List ℕ). get_or l (2 * records + to) 0) (is-handed t) ∙ get_or-set_same notes (2 * records + to) (mark + 1) 0 (omega arith)

  set-marks : test ≡ true → pass_at after to ≡ 1
  set-marks t = ap (λ (x : ℕ). x % 2) (set_is t) ∙ (marked_more mark (unset t)).0

  pub handed-members : (k : ℕ) → member_start after k ≡ member_start notes k
  handed-members k =
      by_test test
      (λ t.
      elim (ℕ_discrete k to) [
        | yes z ↦ ap (member_start after) z ∙ ap (λ (x : ℕ). x / 2) (set_is t) ∙ (marked_more mark (unset t)).1 ∙ ap (member_start notes) (sym z)
        | no z ↦ ap (λ (x : ℕ). x / 2) (apart k z)
      ])
      λ t. ap (λ (l : List ℕ). member_start l k) (unhanded t)

  pub handed-grows : (k : ℕ) → pass_at notes k ≡ 1 → pass_at after k ≡ 1
  handed-grows k e =
      by_test test
      (λ t.
      elim (ℕ_discrete k to) [
        | yes z ↦ ap (pass_at after) z ∙ set-marks t
        | no z ↦ ap (λ (x : ℕ). x % 2) (apart k z) ∙ e
      ])
      λ t. ap (λ (l : List ℕ). pass_at l k) (unhanded t) ∙ e

  pub handed-marks : pass_at notes from ≡ 1 → same_id ids from to ≡ true → pass_at after to ≡ 1
  handed-marks a b =
      by_test (eqb (pass_at notes to) 1) (λ c. handed-grows to (eqb-true (pass_at notes to) 1 c)) λ c.
      set-marks (ap₂ (λ (x y : Bool). x and not y and same_id ids from to) (eq-eqb (pass_at notes from) 1 a) c ∙ b)

  pub handed_was : (k : ℕ) → pass_at after k ≡ 1 → (pass_at notes k ≡ 1) ⊎ ((k ≡ to) × (pass_at notes from ≡ 1) × (same_id ids from to ≡ true))
  handed_was k e =
      by_test test
      (λ t.
      elim (ℕ_discrete k to) [
        | yes z ↦ let w = both t in inr (z, w.0, w.1)
        | no z ↦ inl (sym (ap (λ (x : ℕ). x % 2) (apart k z)) ∙ e)
      ])
      λ t. inl (sym (ap (λ (l : List ℕ). pass_at l k) (unhanded t)) ∙ e)

  pub handed_stays : (k : ℕ) → (pass_at after k ≡ 1 → ⊥) → pass_at after k ≡ pass_at notes k
  handed_stays k n =
      by_test test
      (λ t.
      elim (ℕ_discrete k to) [
        | yes z ↦ absurd (n (ap (pass_at after) z ∙ set-marks t))
        | no z ↦ ap (λ (x : ℕ). x % 2) (apart k z)
      ])
      λ t. ap (λ (l : List ℕ). pass_at l k) (unhanded t)

module _ (p order first : List ℕ) (few : length order ≤ records) (o : Ordered (id_at p first) order) where
  abbrev at : ℕ → ℕ
  at i = get_or order i 0

  abbrev ids : ℕ → List ℕ
  ids = id_at p first

  pub inside : (i : ℕ) → i < length order → get_or order i 0 < records
  inside i h = omega (arith, few, is_record ids order o i h)

  -- a record has one place
  one_place : (i j : ℕ) → i < length order → j < length order → at i ≡ at j → i ≡ j
  one_place i j g h e =
      by_test (ltb i j) (λ t. absurd (two_records ids order o i j (ltb-true i j t) h e)) λ t.
      by_test (ltb j i) (λ s. absurd (two_records ids order o j i (ltb-true j i s) g (sym e))) λ s.
      let a : j ≤ i = ltb-false i j t in let b : i ≤ j = ltb-false j i s in omega arith

  pub marks-start : length first ≡ size → Marks p order first first
  marks-start long =
      record { long = long; same = λ i h. refl; members = λ k. refl; grows = λ k e. e; from = λ k h e. (k, h, refl, e); other = λ k n. refl }

  module _ (notes : List ℕ) (w : Marks p order first notes) (i j : ℕ) (g : i < length order) (h : j < length order) where
    abbrev next : List ℕ
    next = handed (id_at p notes) notes (at i) (at j)

    -- the ids are those of the first notes
    ids-same : (k : ℕ) → k < length order → id_at p notes (at k) ≡ ids (at k)
    ids-same k l = let m = inside k l in ap (λ (x : ℕ). text_of (drop x p)) (w.same (at k) (omega arith))

    alike : same_id (id_at p notes) (at i) (at j) ≡ true → Alike p order first i j
    alike e =
        record {
          some = subst (λ (x : List ℕ). 0 < length x) (ids-same j h) (ltb-true 0 (length (id_at p notes (at j))) (is-given (id_at p notes) (at i) (at j) e));
          same = sym (ids-same i g) ∙ is_same (id_at p notes) (at i) (at j) e ∙ ids-same j h;
        }

    told : Alike p order first i j → same_id (id_at p notes) (at i) (at j) ≡ true
    told a =
        same-given (id_at p notes) (at i) (at j)
        (lt-ltb 0 (length (id_at p notes (at j))) (subst (λ (x : List ℕ). 0 < length x) (sym (ids-same j h)) a.some))
        (ids-same i g ∙ a.same ∙ sym (ids-same j h))

    room : at j < records
    room = inside j h

    pub marks-next : Marks p order first next
    marks-next =
        record {
          long = handed-long (id_at p notes) notes (at i) (at j) w.long room;
          same = λ k l. handed-other (id_at p notes) notes (at i) (at j) w.long room k (λ z. omega arith) ∙ w.same k l;
          members = λ k. handed-members (id_at p notes) notes (at i) (at j) w.long room k ∙ w.members k;
          grows = λ k e. handed-grows (id_at p notes) notes (at i) (at j) w.long room k (w.grows k e);
          from = λ k l e.
              ⊎_elim (λ b. w.from k l b)
              (λ b.
              let v = w.from (at i) (is_record ids order o i g) b.1 in
              (v.0, v.1, v.2 ∙ (alike b.2).same ∙ ap ids (sym b.0), v.3))
              (handed_was (id_at p notes) notes (at i) (at j) w.long room k e);
          other = λ k n. handed_stays (id_at p notes) notes (at i) (at j) w.long room k n ∙ w.other k (λ e. n (handed-grows (id_at p notes) notes (at i) (at j) w.long room k e));
        }

    marked : Alike p order first i j → pass_at notes (at i) ≡ 1 → pass_at next (at j) ≡ 1
    marked a e = handed-marks (id_at p notes) notes (at i) (at j) w.long room e (told a)

    kept : (k : ℕ) → pass_at notes (at k) ≡ 1 → pass_at next (at k) ≡ 1
    kept k e = handed-grows (id_at p notes) notes (at i) (at j) w.long room (at k) e

    -- a mark at the place k was there, or k is the place j and one was at i
    was : {A : Type 0} (k : ℕ) → k < length order → pass_at next (at k) ≡ 1 → (pass_at notes (at k) ≡ 1 → A) → (k ≡ j → pass_at notes (at i) ≡ 1 → A) → A
    was k l e f f' = ⊎_elim f (λ b. f' (one_place k j l h b.0) b.1) (handed_was (id_at p notes) notes (at i) (at j) w.long room (at k) e)

    pub onward-next : j ≡ i + 1 → Onward p order first notes j → Onward p order first next (j + 1)
    onward-next z c m a b s e =
        was m (omega arith) e
        (λ d.
        elim (ℕ_discrete m i) [
          | yes y ↦
              let x : m + 1 ≡ j = omega arith in
              subst (λ (k : ℕ). pass_at next (at k) ≡ 1) (sym x)
              (marked (subst (λ (k : ℕ). Alike p order first k j) y (subst (λ (k : ℕ). Alike p order first m k) x s)) (subst (λ (k : ℕ). pass_at notes (at k) ≡ 1) y d))
          | no y ↦ kept (m + 1) (c m (omega arith) b s d)
        ])
        λ y d. absurd (omega arith)

    -- handing a mark back keeps what was handed on
    pub back-onward : i ≡ j + 1 → Onward p order first notes (length order) → Onward p order first next (length order)
    back-onward z c m a b s e =
        was m (omega arith) e
        (λ d. kept (m + 1) (c m a b s d))
        λ y d. let x : i ≡ m + 1 = omega arith in kept (m + 1) (subst (λ (k : ℕ). pass_at notes (at k) ≡ 1) x d)

    turn : Alike p order first j i → Alike p order first i j
    turn a = record { some = subst (λ (x : List ℕ). 0 < length x) (sym a.same) a.some; same = sym a.same }

    pub back-next : i ≡ j + 1 → Back p order first notes (i + 1) → Back p order first next i
    back-next z c m a b s e =
        was (m + 1) b e
        (λ d.
        elim (ℕ_discrete m j) [
          | yes y ↦
              let x : m + 1 ≡ i = omega arith in
              subst (λ (k : ℕ). pass_at next (at k) ≡ 1) (sym y)
              (marked (turn (subst (λ (k : ℕ). Alike p order first k i) y (subst (λ (k : ℕ). Alike p order first m k) x s))) (subst (λ (k : ℕ). pass_at notes (at k) ≡ 1) x d))
          | no y ↦ kept m (c m (omega arith) b s d)
        ])
        λ y d. absurd (omega arith)

  -- once they are handed on and back: along places with one id
  module _ (notes : List ℕ) (w : Closed p order first notes) where
    between : (i j k : ℕ) → i ≤ k → k ≤ j → j < length order → ids (at i) ≡ ids (at j) → ids (at k) ≡ ids (at j)
    between i j k a b h e =
        by_cases (order_of (ids (at k)) (ids (at j)))
        (λ l. absurd (no_greater ids order o i k a (omega arith) (ap (λ (x : List ℕ). order_of x (ids (at k))) e ∙ order-turned (ids (at k)) (ids (at j)) ∙ ap turned l)))
        (λ l. order-equal (ids (at k)) (ids (at j)) l)
        λ l. absurd (no_greater ids order o k j b h l)

    along : (d i : ℕ) → i + d < length order → 0 < length (ids (at i)) → ids (at i) ≡ ids (at (i + d)) → pass_at notes (at i) ≡ 1 → pass_at notes (at (i + d)) ≡ 1
    along zero i h s e m = let z : i ≡ i + 0 = omega arith in subst (λ (k : ℕ). pass_at notes (at k) ≡ 1) z m
    along (suc d) i h s e m =
        let z : i + suc d ≡ i + d + 1 = omega arith in
        let q : ids (at (i + d)) ≡ ids (at (i + suc d)) = between i (i + suc d) (i + d) (omega arith) (omega arith) h e in
        let ih = along d i (omega arith) s (e ∙ sym q) m in
        let a : Alike p order first (i + d) (i + d + 1) = record {
          some = subst (λ (k : ℕ). 0 < length (ids (at k))) z (subst (λ (x : List ℕ). 0 < length x) e s);
          same = q ∙ ap (λ (k : ℕ). ids (at k)) z;
        } in
        subst (λ (k : ℕ). pass_at notes (at k) ≡ 1) (sym z) (w.on (i + d) (omega arith) (omega arith) a ih)

    against : (d i : ℕ) → i + d < length order → 0 < length (ids (at i)) → ids (at i) ≡ ids (at (i + d)) → pass_at notes (at (i + d)) ≡ 1 → pass_at notes (at i) ≡ 1
    against zero i h s e m = let z : i + 0 ≡ i = omega arith in subst (λ (k : ℕ). pass_at notes (at k) ≡ 1) z m
    against (suc d) i h s e m =
        let z : i + suc d ≡ i + d + 1 = omega arith in
        let q : ids (at (i + d)) ≡ ids (at (i + suc d)) = between i (i + suc d) (i + d) (omega arith) (omega arith) h e in
        let a : Alike p order first (i + d) (i + d + 1) = record {
          some = subst (λ (k : ℕ). 0 < length (ids (at k))) z (subst (λ (x : List ℕ). 0 < length x) e s);
          same = q ∙ ap (λ (k : ℕ). ids (at k)) z;
        } in
        against d i (omega arith) s (e ∙ sym q) (w.back (i + d) (omega arith) (omega arith) a (subst (λ (k : ℕ). pass_at notes (at k) ≡ 1) z m))

    -- a record is marked where one with its id was
    pub spread-marked : (j k : ℕ) → j < length order → k < length order → 0 < length (ids k) → ids j ≡ ids k → pass_at first j ≡ 1 → pass_at notes k ≡ 1
    spread-marked j k g h s e m =
        let a = stands ids order o j g in let b = stands ids order o k h in
        subst (λ (x : ℕ). pass_at notes x ≡ 1) b.2 (go a.0 b.0 a.1 b.1 (subst (λ (x : ℕ). 0 < length (ids x)) (sym b.2) s) (ap ids a.2 ∙ e ∙ ap ids (sym b.2))
        (subst (λ (x : ℕ). pass_at notes x ≡ 1) (sym a.2) (w.marks.grows j m)))
      where
        go : (a b : ℕ) → a < length order → b < length order → 0 < length (ids (at b)) → ids (at a) ≡ ids (at b) → pass_at notes (at a) ≡ 1 → pass_at notes (at b) ≡ 1
        go a b g h s e m =
            by_test (ltb a b)
            (λ t.
            let l : a < b = ltb-true a b t in let z : a + (b - a) ≡ b = omega arith in
            subst (λ (x : ℕ). pass_at notes (at x) ≡ 1) z
            (along (b - a) a (omega arith) (subst (λ (x : List ℕ). 0 < length x) (sym e) s) (e ∙ ap (λ (x : ℕ). ids (at x)) (sym z)) m))
            λ t.
            let l : b ≤ a = ltb-false a b t in let z : b + (a - b) ≡ a = omega arith in
            against (a - b) b (omega arith) s (sym e ∙ ap (λ (x : ℕ). ids (at x)) (sym z)) (subst (λ (x : ℕ). pass_at notes (at x) ≡ 1) (sym z) m)

-- handed on along the order, the marks of `start` are handed back from the place j on
pub record Turned (p order first notes : List ℕ) (j : ℕ) : Type 0 where
  pub marks : Marks p order first notes
  pub on : Onward p order first notes (length order)
  pub back : Back p order first notes j

abbrev pub Turning : (p order start notes : List ℕ) (j : ℕ) → Type 0
Turning p order start notes j =
    (first : List ℕ) → length order ≤ records → Ordered (id_at p first) order → Marks p order first start → Onward p order first start (length order) → Turned p order first notes j

pub turning_start : (p order start : List ℕ) → Turning p order start start (length order)
turning_start p order start first few o m on = record { marks = m; on = on; back = λ k a b s e. absurd (omega arith) }

pub turning_next : (p order start notes : List ℕ) (j : ℕ) → 1 < j → j ≤ length order → Turning p order start notes j
    → Turning p order start (handed (id_at p notes) notes (get_or order (j - 1) 0) (get_or order (j - 1 - 1) 0)) (j - 1)
turning_next p order start notes j h i w first few o m on =
    let t = w first few o m on in let z : j - 1 ≡ j - 1 - 1 + 1 = omega arith in let y : j - 1 + 1 ≡ j = omega arith in
    let a : j - 1 < length order = omega arith in let b : j - 1 - 1 < length order = omega arith in
    record {
      marks = marks-next p order first few o notes t.marks (j - 1) (j - 1 - 1) a b;
      on = back-onward p order first few o notes t.marks (j - 1) (j - 1 - 1) a b z t.on;
      back = back-next p order first few o notes t.marks (j - 1) (j - 1 - 1) a b z (subst (Back p order first notes) (sym y) t.back);
    }

-- by the notes that the first loop began with
pub turned_now : (p order first start notes : List ℕ) (i j : ℕ) → length order ≤ records → Ordered (id_at p first) order → Marks p order first start → Onward p order first start i
    → length order ≤ i → Turning p order start notes j → Turned p order first notes j
turned_now p order first start notes i j few o m on h w = w first few o m (λ k a b s e. on k (less a h) b s e)
  where
    less : {x y z : ℕ} → x < y → y ≤ z → x < z
    less f g = omega arith

pub turning_end : {p order first notes : List ℕ} {j : ℕ} → Turned p order first notes j → j ≤ 1 → Closed p order first notes
turning_end t l = record { marks = t.marks; on = t.on; back = λ k a b s e. t.back k (omega arith) b s e }

-- keys tell of ids what they did
pub tells_on : {p order first notes : List ℕ} (keys : List ℕ) → Marks p order first notes → length keys ≤ records → Tells p first keys → Tells p notes keys
tells_on {p} {order} {first} {notes} keys w few t i j g h l = ap₂ order_of (same i (omega arith)) (same j (omega arith)) ∙ t i j g h l
  where
    same : (k : ℕ) → k < records → id_at p notes k ≡ id_at p first k
    same k m = ap (λ (x : ℕ). text_of (drop x p)) (w.same k (omega arith))
