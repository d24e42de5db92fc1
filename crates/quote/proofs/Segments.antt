-- A loop over segments: those that were read and those that are left are all, and there is a place for each. All are the picked ones, and
-- their rates are moderate, whatever is read.
use mathlib.Core.Bool.{Bool, true, false}
use mathlib.Core.List.Memᴰ
use mathlib.Core.List.{List, [], ◌∷◌, ◌++◌, map, append-nil, append_assoc, Memᴰ}
use mathlib.Core.Logic.{⊎_elim}
use mathlib.Core.Path.{◌≡◌, refl, sym, ap, ap₂, subst, ◌∙◌}
use Prim.Native.Nat.{ℕ, suc, ◌+◌, ◌*◌, ◌≤◌, ◌<◌}
use native.Mathlib.Omega.{arith}
use lib.ListN.{length, take, set, length-map, length-set}
use lib.Seq.{take-suc-set}
use borrow.Author.Tests.{leb-true}
use Rattle.notation.specs.Ascii.{bytes}
use Rattle.notation.specs.Choice.{◌⇒◌else◌, ◌and◌}
use Rattle.limits.specs.Ceilings.{segments}
use Rattle.walk.specs.declared.Item.{Item}
use Rattle.walk.specs.Walk.{items_of}
use Rattle.walk.specs.Part.{Whole, part_tree}
use Rattle.walk.specs.inner.Along.{ItemPassed}
use Rattle.walk.proofs.Left.{Left, Onward, left-start, left_end, left-more}
use Rattle.walk.proofs.Parts.{item_of, items-whole}
use Rattle.schema.specs.Pick.{Picked, pick}
use Rattle.schema.specs.Table23 as table
use Rattle.decimal.specs.declared.Decimal.{Decimal}
use Rattle.decimal.specs.Decimals.{number_of, price_of}
use Rattle.decimal.specs.Exact.{unit, size, in_range, amount_of, money_of}
use Rattle.decimal.proofs.Tests.{within-is}
use Rattle.document.specs.inner.Items.{picked_items}
use Rattle.fare.specs.declared.Segment.{Segment}
use Rattle.fare.specs.Bounds.{most_money}
use Rattle.fare.specs.inner.Room.{Modest}
use Rattle.quote.specs.Plan.{amount_in, number_amount, price_amount, money_in, price_in, plan_segment}
use Rattle.document.specs.inner.Values.{spelled_by, text_by, member_of}
use Rattle.quote.specs.inner.Values.{price_by, segment_by, segments_by}
use Rattle.quote.specs.inner.Clear.{ClearSegments}
use Rattle.quote.proofs.Fields.{segment-is}
use Rattle.std.specs.Prelude.{Option, Result, Some, None, Ok, Err}
use Rattle.decimal.specs.declared.PriceError.{PriceError}
use Rattle.decimal.specs.declared.PriceError.TheVariants.{Unformed, NoNumber}

-- Amounts are bounded, whatever is read.

money_most : (d : Decimal) → (amount_in (money_of d)).size ≤ most_money
unfolding money_of
money_most d = go (in_range 1_000_000 d) refl _
  where
    go : (a : Bool) → in_range 1_000_000 d ≡ a → (b : Bool)
        → (amount_in (a and b ⇒ Some (amount_of d) else None)).size ≤ most_money
    go false e b = omega arith
    go true e false = omega arith
    go true e true = let h : size d ≤ 1_000_000 * unit = leb-true _ _ (within-is 1_000_000 d ∙ e) in omega arith

number-most : (n : Option Decimal) → (number_amount n).size ≤ most_money
number-most (Some d) = money_most d
number-most None = omega arith

quoted-most : (n : Result Decimal PriceError) → (price_amount n).size ≤ most_money
quoted-most (Ok d) = money_most d
quoted-most (Err Unformed) = omega arith
quoted-most (Err NoNumber) = omega arith

spelled-most : (o : Option (List ℕ)) → (money_in o).size ≤ most_money
spelled-most None = omega arith
spelled-most (Some s) = number-most (number_of s)

either-most : (o t : Option (List ℕ)) → (price_in o t).size ≤ most_money
either-most None None = omega arith
either-most None (Some t) = quoted-most (price_of t)
either-most (Some s) t = number-most (number_of s)

pub price-most : (q : List ℕ) → (price_by q).size ≤ most_money
unfolding price_by
price-most q = either-most (spelled_by q) (text_by q)

pub rate_most : (q : List ℕ) → (segment_by q).rate.size ≤ most_money
unfolding segment_by
rate_most q = spelled-most (spelled_by (member_of q (bytes "rate")))

-- an item's segment
abbrev pub segment_of : List ℕ → Item → Segment
segment_of p m = segment_by (item_of p m)

modest-items : (p : List ℕ) (ms : List Item) → Modest (map (segment_of p) ms)
modest-items p [] s i = absurd (Memᴰ.not-nil i)
modest-items p (m ∷ ms) s i =
    let ih = modest-items p ms s in
    ⊎_elim (λ e. subst (λ (t : Segment). t.rate.size ≤ most_money) (sym e) (rate_most (item_of p m))) ih (Memᴰ.cases_cons i)

pub segments-modest : (p : List ℕ) → Modest (segments_by p)
unfolding segments_by
segments-modest p = modest-items p (items_of p)

module _ (p : List ℕ) where
  -- `count` segments were read, and the next is looked for at `at`
  pub record Reading (list : List Segment) (count at : ℕ) : Type 0 where
    items : List Item
    pub left : Left p at items
    places : length list ≡ segments
    few : count + length items ≤ segments
    are : take count list ++ map (segment_of p) items ≡ segments_by p

  pub reading-start : ClearSegments p → (list : List Segment) → length list ≡ segments → Reading list 0 1
  unfolding segments_by
  reading-start c list h = record { items = items_of p; left = left-start c.along; places = h; few = omega (arith, c.few); are = refl }

  module _ {list : List Segment} {count at : ℕ} (g : Reading list count at) {s : Option Item} (f : ItemPassed p at s) where
    pub reading-end : s ≡ None → take count list ≡ segments_by p
    reading-end e =
        let none = left_end g.left f e in
        sym (append-nil (take count list)) ∙ ap (λ (l : List Item). take count list ++ map (segment_of p) l) (sym none) ∙ g.are

    pub reading_few : count ≤ segments
    reading_few = omega (arith, g.few)

    module _ {m : Item} (e : s ≡ Some m) where
      onward : Onward p m g.items
      onward = left-more g.left f e

      pub reading-place : count < segments
      reading-place = omega (arith, g.few, ap length onward.is)

      pub reading-more : Reading (set list count (segment_of p m)) (count + 1) m.next
      reading-more =
          let n : suc count ≡ count + 1 = omega arith in
          let rest = map (segment_of p) onward.rest in
          let stored = ap (λ (k : ℕ). take k (set list count (segment_of p m))) (sym n) ∙ take-suc-set list count (segment_of p m) (omega (arith, g.places, reading-place)) in
          record {
            items = onward.rest;
            left = onward.left;
            places = length-set list count (segment_of p m) ∙ g.places;
            few = omega (arith, g.few, ap length onward.is);
            are = ap (λ (l : List Segment). l ++ rest) stored ∙ append_assoc (take count list) (segment_of p m ∷ []) rest
                ∙ ap (λ (l : List Item). take count list ++ map (segment_of p) l) (sym onward.is) ∙ g.are;
          }

-- the segments of the bytes are the picked ones
same-segments : (f : ℕ) (p : List ℕ) (ms : List Item) → ((m : Item) → Memᴰ m ms → Whole (item_of p m) (part_tree (item_of p m)))
    → map (segment_of p) ms ≡ map (plan_segment f) (map (λ m. pick (table.segment f) (part_tree (item_of p m))) ms)
same-segments f p [] h = refl
same-segments f p (m ∷ ms) h =
    ap₂ (λ (s : Segment) (l : List Segment). s ∷ l) (segment-is f (h m (Memᴰ.head refl))) (same-segments f p ms (λ t i. h t (Memᴰ.tail i)))

pub segments-picked : (f : ℕ) (p : List ℕ) (l : List Picked) → picked_items (table.segment f) p ≡ l → segments_by p ≡ map (plan_segment f) l
unfolding segments_by
segments-picked f p l e = same-segments f p (items_of p) (items-whole p) ∙ ap (map (plan_segment f)) e

pub segments-few : (p : List ℕ) → ClearSegments p → length (segments_by p) ≤ segments
unfolding segments_by
segments-few p c = omega (arith, length-map (items_of p) (segment_of p), c.few)
