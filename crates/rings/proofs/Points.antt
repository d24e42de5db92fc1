-- A ring position by position. Where all positions of a ring are sound and not too many, each that a loop finds is the next of its points, and what is kept of
-- those so far decides with those that are left. What the loop counts and finds is a tally of items that are one position each.
use mathlib.Core.Bool.{Bool, true, false}
use mathlib.Core.List.Memᴰ
use mathlib.Core.List.{List, [], ◌∷◌, ◌++◌, map, Memᴰ}
use mathlib.Core.Logic.{⊎_elim}
use mathlib.Core.Path.{◌≡◌, refl, sym, ap, subst, ◌∙◌}
use Prim.Native.Nat.{ℕ, ◌+◌, ◌≤◌, ◌<◌}
use native.Mathlib.Decide.{dec_lt}
use native.Mathlib.Omega.{arith}
use lib.Dec.{leb}
use lib.ListN.{length, length-map}
use borrow.Author.Tests.{le-leb, lt-leb}
use Rattle.limits.specs.Ceilings.{positions}
use Rattle.notation.specs.Choice.{◌and◌}
use Rattle.json_text.specs.Tree.{Json}
use Rattle.walk.specs.declared.Item.{Item}
use Rattle.walk.specs.Walk.{items_of}
use Rattle.walk.specs.Part.{Whole}
use Rattle.walk.specs.inner.Along.{AlongItems, ItemPassed}
use Rattle.walk.proofs.Parts.{item_of}
use Rattle.walk.proofs.Left.{left-whole, left-among, Comes, comes_start, comes_end, comes_here, comes_more}
use Rattle.geometry.specs.Ring.{Point, sound}
use Rattle.geometry.specs.inner.Shifted.{OnMap, point}
use Rattle.geometry.specs.inner.Outline.{no_outline, joined, Sized, sound_from}
use Rattle.geometry.specs.declared.Outline.{Outline}
use Rattle.geometry.proofs.Outlines.{sized-none, sized-next, sound-start, sound-next}
use Rattle.schema.specs.Pick.{Picked, pick}
use Rattle.fault.specs.Fault.{lesser}
use Rattle.document.specs.inner.Items.{picked, picked_items}
use Rattle.rings.specs.Rings.{Found, found_at, position_kinds, position, no_kinds, all_sound, positions_found}
use Rattle.rings.specs.inner.Parts.{least_found, position_shape, Listing, FindsPosition, found_in, RingRead, RingRoom}
use Rattle.rings.specs.declared.Field.{Field}
use Rattle.rings.specs.declared.Judged.{Judged}
use Rattle.rings.specs.declared.PositionFound.{PositionFound}
use Rattle.rings.specs.declared.Tally.{Tally}
use Rattle.rings.proofs.Found.{least-empty}
use Rattle.rings.proofs.Tallies.{Passed, passed_start, passed_within, passed_next, Tallies, tallies_start, tallies_end, tallies_more}
use Rattle.std.specs.Prelude.{Option, Some, None}
use Rattle.fault.specs.declared.Fault.{Fault}

-- the points at items of p
abbrev pub points : List ℕ → List Item → List Point
points p ms = map position (map (picked position_shape p) ms)

-- k items were passed, and with those that are left they are at most `most`
abbrev pub Counted : List ℕ → (k most at : ℕ) → Type 0
Counted p k most at = Comes p (λ ms. leb (k + length ms) most) at true

pub counted_start : {p : List ℕ} (most : ℕ) → Listing p → length (items_of p) ≤ most → Counted p 0 most 1
counted_start {p} most w h =
    let few : 0 + length (items_of p) ≤ most = omega (arith, h) in
    subst (Comes p (λ ms. leb (0 + length ms) most) 1) (le-leb (0 + length (items_of p)) most few)
    (comes_start (λ ms. leb (0 + length ms) most) (λ n. AlongItems.start (w.whole n).1))

module _ {p : List ℕ} (k most : ℕ) {at : ℕ} (w : Counted p k most at) {s : Option Item} (f : ItemPassed p at s) {m : Item} (e : s ≡ Some m) where
  pub counted_less : k < most
  counted_less = go (dec_lt k most)
    where
      go : Dec (k < most) → k < most
      go (yes l) = l
      go (no n) =
          let never : false ≡ true = comes_here w f e (λ l. lt-leb (k + length (m ∷ l)) most (omega (arith, n))) in
          let z : ◌≡◌ {A = ℕ} 0 1 = cc in absurd (omega arith)

  pub counted-more : Counted p (k + 1) most m.next
  counted-more =
      comes_more w f e (λ ms. leb (k + 1 + length ms) most) (λ l. let n : k + length (m ∷ l) ≡ k + 1 + length l = omega arith in ap (λ i. leb i most) n)

-- a position that is sound has its point
split : (ks : List ℕ) (t : Bool) → (no_kinds ks and t) ≡ true → (ks ≡ []) × (t ≡ true)
unfolding no_kinds
split [] t e = (refl, e)
split (k ∷ ks) t e = let z : ◌≡◌ {A = ℕ} 0 1 = cc in absurd (omega arith)

sound-each : (l : List Picked) → all_sound l ≡ true → (x : Picked) → Memᴰ x l → position_kinds x ≡ []
unfolding all_sound
sound-each [] e x i = absurd (Memᴰ.not-nil i)
sound-each (y ∷ l) e x i =
    let s = split (position_kinds y) (all_sound l) e in let later = sound-each l s.1 x in
    ⊎_elim (λ (h : x ≡ y). ap position_kinds h ∙ s.0) later (Memᴰ.cases_cons i)

pub item-sound : (p : List ℕ) {m : Item} → all_sound (picked_items position_shape p) ≡ true → Memᴰ m (items_of p) → position_kinds (picked position_shape p m) ≡ []
item-sound p {m} e i = sound-each (picked_items position_shape p) e (picked position_shape p m) (Memᴰ.map (picked position_shape p) i)

pub point-found : {q : Field} {n : ℕ} (x : Picked) {s : PositionFound} → FindsPosition q n (position_kinds x) (position x) s → position_kinds x ≡ []
    → point s.point ≡ position x
point-found {q} {n} x k e = k.point (k.least ∙ ap (λ ks. least_found q (found_at n ks)) e ∙ least-empty q n)

-- the positions of a ring, as items that are one position each
abbrev position_found : ℕ → Picked → List Found
position_found n x = found_at n (position_kinds x)

abbrev single : Picked → ℕ
single x = 1

abbrev nothing : Picked → ℕ
nothing x = 0

positions-found : (n : ℕ) (l : List Picked) → positions_found n l ≡ found_in position_found single n l
unfolding positions_found found_in
positions-found n [] = refl
positions-found n (x ∷ l) = ap (λ (fs : List Found). found_at n (position_kinds x) ++ fs) (positions-found (n + 1) l)

abbrev one_position : Option Fault → Judged
one_position least = record { items = 0; positions = 1; least = least }

abbrev tally_at : ℕ → Option Fault → Tally
tally_at k least = record { count = k; items = 0; positions = k; least = least }

-- what is known where a walk over the positions of p, the first with the number n, has come to a place
module _ (q : Field) (n : ℕ) (p : List ℕ) where
  abbrev all : List Picked
  all = picked_items position_shape p

  pub record Walked (o : Outline) (least : Option Fault) (at : ℕ) : Type 0 where
    pub passed : Passed p at o.count
    tallies : Listing p → Tallies q position_found nothing single position_shape n p (tally_at o.count least) at
    counted : Listing p → length all ≤ positions → Counted p o.count positions at
    sounds : Listing p → all_sound all ≡ true → length all ≤ positions → Comes p (λ ms. sound_from o (points p ms)) at (sound (map position all))

  -- and what is kept of the points so far is an outline of points on the map
  pub record Reading (o : Outline) (least : Option Fault) (at : ℕ) : Type 0 where
    pub walked : Walked o least at
    pub sized : Sized o

  pub walked-start : Walked no_outline None 1
  walked-start =
      record {
        passed = passed_start p;
        tallies = λ w. tallies_start q position_found nothing single position_shape n p w;
        counted = λ w h. counted_start positions w (omega (arith, h, length-map (items_of p) (picked position_shape p)));
        sounds = λ w e h.
            subst (Comes p (λ ms. sound_from no_outline (points p ms)) 1) (sound-start (points p (items_of p)))
            (comes_start (λ ms. sound_from no_outline (points p ms)) (λ i. AlongItems.start (w.whole i).1));
      }

  pub reading-start : Reading no_outline None 1
  reading-start = record { walked = walked-start; sized = sized-none }

  module _ {o : Outline} {least : Option Fault} {at : ℕ} (r : Walked o least at) {s : Option Item} (f : ItemPassed p at s) where
    pub walked-end : s ≡ None → (o.count ≤ length p) × (Listing p → RingRead q n all (record { least = least; outline = o }))
    walked-end e = (
      passed_within r.passed,
      λ w.
          let t = tallies_end q position_found nothing single position_shape n p (tally_at o.count least) (r.tallies w) f e in
          record {
            count = ap (λ (z : Tally). z.count) t;
            least = ap (λ (z : Tally). z.least) t ∙ ap (least_found q) (sym (positions-found n all));
            sound = λ h i. comes_end (r.sounds w h i) f e;
          },
    )

    pub walked-more : {m : Item} → s ≡ Some m → (found : PositionFound)
        → ((x : Json) → Whole (item_of p m) x → FindsPosition q (n + o.count) (position_kinds (pick position_shape x)) (position (pick position_shape x)) found)
        → Walked (joined o found.point) (lesser least found.least) m.next
    walked-more {m} e found finds =
        record {
          passed = passed_next r.passed (f.placed m e);
          tallies = λ w.
              tallies_more q position_found nothing single position_shape n p (tally_at o.count least) (r.tallies w) f e {j = one_position found.least}
              (λ x i. ap one_position (finds x i).least);
          counted = λ w h. counted-more o.count positions (r.counted w h) f e;
          sounds = λ w h i.
              let c = r.sounds w h i in
              let here = point-found (picked position_shape p m) (finds _ (left-whole c.left f e)) (item-sound p h (left-among c.left f e)) in
              let few = counted_less o.count positions (r.counted w i) f e in
              comes_more c f e (λ ms. sound_from (joined o found.point) (points p ms))
              (λ l. ap (λ z. sound_from o (z ∷ points p l)) (sym here) ∙ sound-next o found.point (points p l) few);
        }

  module _ {o : Outline} {least : Option Fault} {at : ℕ} (r : Reading o least at) {s : Option Item} (f : ItemPassed p at s) where
    pub reading-end : s ≡ None → RingRoom (length p) (record { least = least; outline = o }) × (Listing p → RingRead q n all (record { least = least; outline = o }))
    reading-end e = let w = walked-end r.walked f e in (record { within = w.0; sized = r.sized }, w.1)

    pub reading-more : {m : Item} → s ≡ Some m → (found : PositionFound) → OnMap found.point
        → ((x : Json) → Whole (item_of p m) x → FindsPosition q (n + o.count) (position_kinds (pick position_shape x)) (position (pick position_shape x)) found)
        → Reading (joined o found.point) (lesser least found.least) m.next
    reading-more e found on finds = record { walked = walked-more r.walked f e found finds; sized = sized-next r.sized on }
