-- Items that are counted, judged and numbered one after the other, for any way to judge one: what is tallied so far, with what is left, is what is tallied
-- of all. The items' bytes lie one behind the other in any bytes, so whatever is counted in each is no more than there are bytes.
use mathlib.Core.List.{List, [], ◌∷◌, map}
use mathlib.Core.Path.{◌≡◌, refl, sym, ap, subst, ◌∙◌}
use Prim.Native.Nat.{ℕ, ◌+◌, ◌-◌, ◌^◌, ◌≤◌, ◌<◌}
use native.Mathlib.Omega.{arith}
use lib.ListN.{length, drop, length-take}
use Rattle.json_text.specs.Tree.{Json}
use Rattle.walk.specs.declared.Item.{Item}
use Rattle.walk.specs.Walk.{items_of}
use Rattle.walk.specs.Part.{Whole}
use Rattle.walk.specs.inner.Along.{AlongItems, ItemPlaced, ItemPassed}
use Rattle.walk.proofs.Parts.{item_of}
use Rattle.walk.proofs.Left.{left-whole, Comes, comes_start, comes_end, comes_more}
use Rattle.schema.specs.Shape.{Shape}
use Rattle.schema.specs.Pick.{Picked, pick}
use Rattle.fault.specs.Fault.{lesser}
use Rattle.fault.proofs.Leasts.{lesser-none, none-lesser, lesser_assoc}
use Rattle.document.specs.inner.Items.{picked, picked_items}
use Rattle.rings.specs.Rings.{Found}
use Rattle.rings.specs.inner.Parts.{least_found, Listing, judged_of, sum_over, found_in, tally_of, no_tally, tallied, Countable, Within, TallyWithin}
use Rattle.rings.specs.declared.Field.{Field}
use Rattle.rings.specs.declared.Judged.{Judged}
use Rattle.rings.specs.declared.Tally.{Tally}
use Rattle.rings.proofs.Found.{least_append, least-of-none}
use Rattle.std.specs.Prelude.{Option, Some, None}

-- k of something were counted in the items of p that end before `at`
pub record Passed (p : List ℕ) (at k : ℕ) : Type 0 where
  pub room : k < at
  pub inside : at ≤ length p + 1

pub passed_start : (p : List ℕ) → Passed p 1 0
passed_start p = record { room = omega arith; inside = omega arith }

module _ {p : List ℕ} {at k : ℕ} (g : Passed p at k) where
  pub passed_within : k ≤ length p
  passed_within = omega (arith, g.room, g.inside)

  module _ {m : Item} (f : ItemPlaced p at m) where
    size : length (item_of p m) ≤ m.value_end - m.value
    size = omega (arith, length-take (m.value_end - m.value) (drop m.value p))

    -- with the bytes of an item that is found there
    pub passed_room : k + length (item_of p m) < length p
    passed_room = omega (arith, g.room, f.later, f.value, f.next, f.inside, size)

    pub passed_one : k + 1 < length p + 1
    passed_one = omega (arith, g.room, f.later, f.value, f.next, f.inside)

    pub passed_more : (q : ℕ) → q ≤ length (item_of p m) → Passed p m.next (k + q)
    passed_more q h = record { room = omega (arith, g.room, f.later, f.value, f.next, size, h); inside = omega (arith, f.inside) }

    pub passed_next : Passed p m.next (k + 1)
    passed_next = record { room = omega (arith, g.room, f.later, f.value, f.next); inside = omega (arith, f.inside) }

-- each count of a tally was made in such items
record TallyPassed (p : List ℕ) (at : ℕ) (t : Tally) : Type 0 where
  pub count : Passed p at t.count
  pub items : Passed p at t.items
  pub positions : Passed p at t.positions

tally_passed_start : (p : List ℕ) → TallyPassed p 1 no_tally
tally_passed_start p = record { count = passed_start p; items = passed_start p; positions = passed_start p }

module _ {p : List ℕ} {at : ℕ} {t : Tally} (g : TallyPassed p at t) where
  tally_within : TallyWithin (length p) t
  tally_within = record { count = passed_within g.count; positions = passed_within g.positions }

  module _ {m : Item} (f : ItemPlaced p at m) (n : ℕ) (few : n + length p < 2 ^ 32) where
    -- the number of the next position, with the item's bytes
    tally_number : n + t.positions + length (item_of p m) < 2 ^ 32
    tally_number = omega (arith, passed_room g.positions f, few)

    module _ {j : Judged} (w : Within (length (item_of p m)) j) where
      tally_countable : Countable (tallied t j)
      tally_countable =
          record {
            count = omega (arith, passed_one g.count f, few);
            items = omega (arith, passed_room g.items f, w.items, few);
            positions = omega (arith, passed_room g.positions f, w.positions, few);
          }

      tally_passed_more : TallyPassed p m.next (tallied t j)
      tally_passed_more =
          record {
            count = passed_next g.count f;
            items = passed_more g.items f j.items w.items;
            positions = passed_more g.positions f j.positions w.positions;
          }

-- the definitions, step by step
sum-none : (c : Picked → ℕ) → sum_over c [] ≡ 0
unfolding sum_over
sum-none c = refl

sum-next : (c : Picked → ℕ) (x : Picked) (l : List Picked) → sum_over c (x ∷ l) ≡ c x + sum_over c l
unfolding sum_over
sum-next c x l = refl

module _ (φ : Field) (e : ℕ → Picked → List Found) (d c : Picked → ℕ) where
  found_none : (n : ℕ) → least_found φ (found_in e c n []) ≡ least_found φ []
  unfolding found_in
  found_none n = refl

  found-next : (n : ℕ) (x : Picked) (l : List Picked)
      → least_found φ (found_in e c n (x ∷ l)) ≡ lesser (least_found φ (e n x)) (least_found φ (found_in e c (n + c x) l))
  unfolding found_in
  found-next n x l = least_append φ (e n x) (found_in e c (n + c x) l)

  module _ (σ : Shape) (n : ℕ) (p : List ℕ) where
    -- what is tallied, with the items that are left
    abbrev tally_from : Tally → List Item → Tally
    tally_from t ms =
        record {
          count = t.count + length (map (picked σ p) ms);
          items = t.items + sum_over d (map (picked σ p) ms);
          positions = t.positions + sum_over c (map (picked σ p) ms);
          least = lesser t.least (least_found φ (found_in e c (n + t.positions) (map (picked σ p) ms)));
        }

    tally_all : (ms : List Item) → tally_from no_tally ms ≡ tally_of φ e d c n (map (picked σ p) ms)
    tally_all ms =
        let l = map (picked σ p) ms in
        let count : 0 + length l ≡ length l = omega arith in
        let items : 0 + sum_over d l ≡ sum_over d l = omega arith in
        let positions : 0 + sum_over c l ≡ sum_over c l = omega arith in
        let number : n + 0 ≡ n = omega arith in
        let least = none-lesser (least_found φ (found_in e c (n + 0) l)) ∙ ap (λ k. least_found φ (found_in e c k l)) number in
        λ i. record { count = count i; items = items i; positions = positions i; least = least i }

    tally_none : (t : Tally) → tally_from t [] ≡ t
    tally_none t =
        let count : t.count + 0 ≡ t.count = omega arith in
        let items : t.items + sum_over d [] ≡ t.items = omega (arith, sum-none d) in
        let positions : t.positions + sum_over c [] ≡ t.positions = omega (arith, sum-none c) in
        let least = ap (lesser t.least) (found_none (n + t.positions) ∙ least-of-none φ) ∙ lesser-none t.least in
        λ i. record { count = count i; items = items i; positions = positions i; least = least i }

    tally_next : (t : Tally) (m : Item) (ms : List Item) → let x = picked σ p m in
        tally_from t (m ∷ ms) ≡ tally_from (tallied t (judged_of φ (e (n + t.positions) x) (d x) (c x))) ms
    tally_next t m ms =
        let x = picked σ p m in let l = map (picked σ p) ms in let k = n + t.positions in
        let count : t.count + length (x ∷ l) ≡ t.count + 1 + length l = omega arith in
        let items : t.items + sum_over d (x ∷ l) ≡ t.items + d x + sum_over d l = omega (arith, sum-next d x l) in
        let positions : t.positions + sum_over c (x ∷ l) ≡ t.positions + c x + sum_over c l = omega (arith, sum-next c x l) in
        let number : k + c x ≡ n + (t.positions + c x) = omega arith in
        let least =
        ap (lesser t.least) (found-next k x l) ∙ sym (lesser_assoc t.least (least_found φ (e k x)) (least_found φ (found_in e c (k + c x) l)))
        ∙ ap (λ z. lesser (lesser t.least (least_found φ (e k x))) (least_found φ (found_in e c z l))) number in
        λ i. record { count = count i; items = items i; positions = positions i; least = least i }

    -- at the place `at` of the array p
    abbrev pub Tallies : Tally → ℕ → Type 0
    Tallies t at = Comes p (tally_from t) at (tally_of φ e d c n (picked_items σ p))

    pub tallies_start : Listing p → Tallies no_tally 1
    tallies_start w =
        subst (Comes p (tally_from no_tally) 1) (tally_all (items_of p)) (comes_start (tally_from no_tally) (λ h. AlongItems.start (w.whole h).1))

    module _ (t : Tally) {at : ℕ} (w : Tallies t at) {s : Option Item} (f : ItemPassed p at s) where
      pub tallies_end : s ≡ None → t ≡ tally_of φ e d c n (picked_items σ p)
      tallies_end h = sym (tally_none t) ∙ comes_end w f h

      pub tallies_more : {m : Item} → s ≡ Some m → {j : Judged}
          → ((x : Json) → Whole (item_of p m) x → j ≡ judged_of φ (e (n + t.positions) (pick σ x)) (d (pick σ x)) (c (pick σ x)))
          → Tallies (tallied t j) m.next
      tallies_more {m} h {j} judged =
          comes_more w f h (tally_from (tallied t j))
          (λ l. tally_next t m l ∙ ap (λ i. tally_from (tallied t i) l) (sym (judged _ (left-whole w.left f h))))

    -- what a loop over the items of p keeps: its counts have room in any bytes, and along an array they come to those of all items
    pub record Tallying (t : Tally) (at : ℕ) : Type 0 where
      passed : TallyPassed p at t
      tallies : Listing p → Tallies t at

    pub tallying_start : Tallying no_tally 1
    tallying_start = record { passed = tally_passed_start p; tallies = tallies_start }

    module _ {t : Tally} {at : ℕ} (w : Tallying t at) {s : Option Item} (f : ItemPassed p at s) where
      pub tallying_end : s ≡ None → TallyWithin (length p) t × (Listing p → t ≡ tally_of φ e d c n (picked_items σ p))
      tallying_end h = (tally_within w.passed, λ i. tallies_end t (w.tallies i) f h)

      module _ {m : Item} (h : s ≡ Some m) (few : n + length p < 2 ^ 32) where
        pub tallying_number : n + t.positions + length (item_of p m) < 2 ^ 32
        tallying_number = tally_number w.passed (f.placed m h) n few

        module _ {j : Judged} (told : Within (length (item_of p m)) j
            × ((x : Json) → Whole (item_of p m) x → j ≡ judged_of φ (e (n + t.positions) (pick σ x)) (d (pick σ x)) (c (pick σ x)))) where
          pub tallying_countable : Countable (tallied t j)
          tallying_countable = tally_countable w.passed (f.placed m h) n few told.0

          pub tallying_more : Tallying (tallied t j) m.next
          tallying_more =
              record {
                passed = tally_passed_more w.passed (f.placed m h) n few told.0;
                tallies = λ i. tallies_more t (w.tallies i) f h told.1;
              }
