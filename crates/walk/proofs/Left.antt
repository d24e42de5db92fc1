-- How a loop over the items of an array goes. At its place the walk finds the first of the items still to come, or nothing where none is left; passing over
-- values finds what reading them finds. So the items still to come decide what the loop answers: its invariant is `Comes`, and it cites `comes_start`,
-- `comes_end` where nothing is found, `comes_here` where the item that is found decides, and `comes_more` where the loop goes on, by `nearer` not for ever.
use mathlib.Core.List.{List, [], ◌∷◌, Memᴰ}
use mathlib.Core.Path.{◌≡◌, refl, sym, ap, subst, ◌∙◌}
use Prim.Native.Nat.{ℕ, ◌+◌, ◌-◌, ◌≤◌, ◌<◌}
use native.Mathlib.Decide.{dec_lt}
use native.Mathlib.Omega.{arith}
use lib.ListN.{length}
use Rattle.walk.specs.declared.Item.{Item}
use Rattle.walk.specs.Walk.{item_at, items_from, items_of}
use Rattle.walk.specs.Part.{Whole, part_tree}
use Rattle.walk.specs.inner.Along.{AlongItems, ItemPlaced, ItemPassed}
use Rattle.walk.proofs.Folds.{item_steps, one_more_lem, items-end}
use Rattle.walk.proofs.Places.{item-placed}
use Rattle.walk.proofs.Parts.{item_of, item-whole}
use Rattle.std.specs.Prelude.{Option, Some, None}

module _ {p : List ℕ} {at : ℕ} {s : Option Item} (f : ItemPassed p at s) where
  -- behind the last byte nothing is found
  behind : length p ≤ at → (o : Option Item) → ((m : Item) → o ≡ Some m → ItemPlaced p at m) → o ≡ None
  behind n None g = refl
  behind n (Some m) g = let k = g m refl in absurd (omega (arith, k.later, k.value, k.next, k.inside))

  pub passed_read : (at < length p → AlongItems p at) → s ≡ item_at p at
  passed_read a = go (dec_lt at (length p))
    where
      go : Dec (at < length p) → s ≡ item_at p at
      go (yes i) = f.same (a i)
      go (no n) = let i : length p ≤ at = omega (arith, n) in behind i s f.placed ∙ sym (behind i (item_at p at) (item-placed p at))

  -- a step goes on
  pub nearer : {m : Item} → s ≡ Some m → length p - m.next < length p - at
  nearer {m} e = let k = f.placed m e in omega (arith, k.later, k.value, k.next, k.inside)

-- ms are the items of p from `at` on
pub record Left (p : List ℕ) (at : ℕ) (ms : List Item) : Type 0 where
  along : at < length p → AlongItems p at
  most : ℕ
  enough : length p ≤ at + most
  are : items_from most p at ≡ ms
  pub among : (m : Item) → Memᴰ m ms → Memᴰ m (items_of p)

-- the item m was found, and others are still to come
pub record Onward (p : List ℕ) (m : Item) (ms : List Item) : Type 0 where
  pub rest : List Item
  pub is : ms ≡ m ∷ rest
  pub left : Left p m.next rest

pub left-start : {p : List ℕ} → (0 < length p → AlongItems p 1) → Left p 1 (items_of p)
unfolding items_of
left-start {p} a = record { along = λ h. a (omega arith); most = length p; enough = omega arith; are = refl; among = λ m i. i }

module _ {p : List ℕ} {at : ℕ} {ms : List Item} (w : Left p at ms) {s : Option Item} (f : ItemPassed p at s) where
  pub left_end : s ≡ None → ms ≡ []
  left_end e = sym w.are ∙ items-end p w.most at (sym (passed_read f w.along) ∙ e)

  module _ {m : Item} (e : s ≡ Some m) where
    pub left-found : item_at p at ≡ Some m
    left-found = sym (passed_read f w.along) ∙ e

    pub left-whole : Whole (item_of p m) (part_tree (item_of p m))
    left-whole = item-whole p at m left-found

    pub left-more : Onward p m ms
    left-more =
        let k = f.placed m e in let j = one_more_lem (item_steps p) w.most at m left-found w.enough in
        let i : ms ≡ m ∷ items_from j.0 p m.next = sym w.are ∙ j.2 in
        record {
          rest = items_from j.0 p m.next;
          is = i;
          left =
              record {
                along = λ h. AlongItems.next (w.along (omega (arith, k.later, k.value, k.next, k.inside))) left-found;
                most = j.0;
                enough = j.1;
                are = refl;
                among = λ t h. w.among t (subst (Memᴰ t) (sym i) (Memᴰ.tail h));
              };
        }

    pub left-among : Memᴰ m (items_of p)
    left-among = w.among m (subst (Memᴰ m) (sym left-more.is) (Memᴰ.head refl))

-- of the items of p from `at` on `comes` makes r; a loop with a state has it in `comes`
pub record Comes {R : Type 0} (p : List ℕ) (comes : List Item → R) (at : ℕ) (r : R) : Type 0 where
  items : List Item
  pub left : Left p at items
  makes : comes items ≡ r

pub comes_start : {R : Type 0} {p : List ℕ} (comes : List Item → R) → (0 < length p → AlongItems p 1) → Comes p comes 1 (comes (items_of p))
comes_start comes a = record { items = _; left = left-start a; makes = refl }

module _ {R : Type 0} {p : List ℕ} {comes : List Item → R} {at : ℕ} {r : R} (w : Comes p comes at r) {s : Option Item} (f : ItemPassed p at s) where
  pub comes_end : s ≡ None → comes [] ≡ r
  comes_end e = ap comes (sym (left_end w.left f e)) ∙ w.makes

  module _ {m : Item} (e : s ≡ Some m) where
    pub comes_here : {b : R} → ((l : List Item) → comes (m ∷ l) ≡ b) → b ≡ r
    comes_here t = let o = left-more w.left f e in sym (t o.rest) ∙ ap comes (sym o.is) ∙ w.makes

    pub comes_more : (next : List Item → R) → ((l : List Item) → comes (m ∷ l) ≡ next l) → Comes p next m.next r
    comes_more next t =
        let o = left-more w.left f e in record { items = o.rest; left = o.left; makes = sym (t o.rest) ∙ ap comes (sym o.is) ∙ w.makes }
