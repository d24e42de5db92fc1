-- A loop that asks each item of an array for its faults: the least so far, with the faults of the items still to come, makes the least of all; and an item takes
-- a byte at least, so no number is past the bytes. And a loop that sums the counts of items. Both rest on the law of loops over items.
use mathlib.Core.List.{List, map, Memᴰ}
use mathlib.Core.Path.{◌≡◌, refl, sym, ap, subst, ◌∙◌}
use Prim.Native.Nat.{ℕ, ◌+◌, ◌<◌}
use native.Mathlib.Omega.{arith}
use lib.ListN.{length}
use Rattle.walk.specs.declared.Item.{Item}
use Rattle.walk.specs.Walk.{items_of}
use Rattle.walk.specs.Part.{Whole, part_tree}
use Rattle.walk.specs.inner.Along.{AlongItems, ItemPassed}
use Rattle.walk.proofs.Left.{left-whole, left-among, Comes, comes_start, comes_end, comes_more}
use Rattle.walk.proofs.Parts.{item_of}
use Rattle.schema.specs.Shape.{Shape}
use Rattle.schema.specs.Table23.{available}
use Rattle.schema.specs.Pick.{Picked, pick}
use Rattle.fault.specs.declared.Fault.{Fault}
use Rattle.fault.specs.Fault.{lesser, least}
use Rattle.fault.proofs.Leasts.{lesser-none, none-lesser, least_append}
use Rattle.judge.proofs.Going.{passed}
use Rattle.document.specs.Document.{spelling}
use Rattle.document.specs.inner.Items.{picked_items}
use Rattle.document.specs.Values.{integer_in}
use Rattle.cross.specs.Cross.{sum_of, each_record}
use Rattle.std.specs.Prelude.{Option, Some, None}

-- what is picked of an item
abbrev pub picked_item : Shape → List ℕ → Item → Picked
picked_item σ p m = pick σ (part_tree (item_of p m))

-- n items are passed, `acc` is the least of what they break, and the next is looked for at `at`
module _ (faults : ℕ → Picked → List Fault) (σ : Shape) (p : List ℕ) where
  abbrev judging : ℕ → Option Fault → List Item → Option Fault
  judging n acc ms = lesser acc (least (each_record faults (n + 1) (map (picked_item σ p) ms)))

  pub record Judging (n at : ℕ) (acc : Option Fault) : Type 0 where
    pub fewer : n < at
    comes : Comes p (judging n acc) at (least (each_record faults 1 (picked_items σ p)))

  pub judging-start : (0 < length p → AlongItems p 1) → Judging 0 1 None
  judging-start a =
      record { fewer = omega arith; comes = subst (Comes p (judging 0 None) 1) (none-lesser (least (each_record faults 1 (picked_items σ p)))) (comes_start (judging 0 None) a) }

module _ {faults : ℕ → Picked → List Fault} {σ : Shape} {p : List ℕ} {n at : ℕ} {acc : Option Fault} (w : Judging faults σ p n at acc) {s : Option Item} (f : ItemPassed p at s) where
  pub judging-end : s ≡ None → acc ≡ least (each_record faults 1 (picked_items σ p))
  unfolding each_record least
  judging-end e = sym (lesser-none acc) ∙ comes_end w.comes f e

  module _ {m : Item} (e : s ≡ Some m) where
    pub judging-room : n + 1 < length p
    judging-room = let k = f.placed m e in omega (arith, w.fewer, k.later, k.value, k.next, k.inside)

    pub judging-among : Memᴰ m (items_of p)
    judging-among = left-among w.comes.left f e

    pub judging-whole : Whole (item_of p m) (part_tree (item_of p m))
    judging-whole = left-whole w.comes.left f e

    pub judging-more : {this : Option Fault} → this ≡ least (faults (n + 1) (picked_item σ p m)) → {now' : Option Fault} → now' ≡ lesser acc this → Judging faults σ p (n + 1) m.next now'
    unfolding each_record
    judging-more {this} i {now'} h =
        let k = f.placed m e in
        record {
          fewer = omega (arith, w.fewer, k.later, k.value, k.next, k.inside);
          comes =
              comes_more w.comes f e (judging faults σ p (n + 1) now') (λ l.
              let rest = each_record faults (n + 1 + 1) (map (picked_item σ p) l) in
              sym (ap (λ (a : Option Fault). lesser a (least rest)) (h ∙ ap (lesser acc) i)
              ∙ passed acc (least (faults (n + 1) (picked_item σ p m))) (least rest) (least_append (faults (n + 1) (picked_item σ p m)) rest) refl));
        }

-- the counts of items, summed
module _ (p : List ℕ) where
  abbrev summing : ℕ → List Item → ℕ
  summing sum ms = sum + sum_of (map (picked_item available p) ms)

  abbrev pub Sums : (sum at : ℕ) → Type 0
  Sums sum at = Comes p (summing sum) at (sum_of (picked_items available p))

  pub sums-start : (0 < length p → AlongItems p 1) → Sums 0 1
  sums-start a =
      let z : 0 + sum_of (picked_items available p) ≡ sum_of (picked_items available p) = omega arith in subst (Comes p (summing 0) 1) z (comes_start (summing 0) a)

  module _ (sum at : ℕ) (w : Sums sum at) {s : Option Item} (f : ItemPassed p at s) where
    pub sums-end : s ≡ None → sum ≡ sum_of (picked_items available p)
    unfolding sum_of
    sums-end e = let z : sum ≡ sum + 0 = omega arith in z ∙ comes_end w f e

    pub sums-more : {m : Item} → s ≡ Some m → {count : ℕ} → count ≡ integer_in (spelling 39 (picked_item available p m)) → Sums (sum + count) m.next
    unfolding sum_of
    sums-more {m} e {count} i = comes_more w f e (summing (sum + count)) (λ l. rw (sum_of, ← i) (omega arith))
