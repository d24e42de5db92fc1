-- Behind a whole array or object anything may stand: along it a walk takes the same steps in a longer text. Each element is read the same there, since
-- a bracket or a comma follows it, and its places are counted from the front.
use mathlib.Core.List.{List, [], ◌∷◌, ◌++◌, append_assoc, map, Memᴰ}
use mathlib.Core.Logic.{⊎_elim}
use mathlib.Core.Path.{◌≡◌, refl, sym, ap, subst, ◌∙◌}
use Prim.Native.Nat.{ℕ, zero, suc, ◌+◌, ◌-◌, ◌≤◌, ◌<◌}
use native.Mathlib.Omega.{arith}
use lib.Dec.{eqb}
use lib.ListN.{length, drop, take, length-append, length-drop, take-append-drop}
use lib.Seq.{take_at, take-append-le, drop-append-le}
use Rattle.limits.specs.Ceilings.{depth}
use Rattle.notation.proofs.Booleans.{by_test}
use Rattle.notation.proofs.Lists.{no_cons}
use Rattle.lexeme.specs.Read.{Read}
use Rattle.lexeme.specs.Read.Read.{done}
use Rattle.lexeme.specs.Character.{paired}
use Rattle.lexeme.specs.Strings
use Rattle.lexeme.specs.Tokens.{blanks}
use Rattle.lexeme.proofs.Reading.{Settled, alike, StrongPrefix}
use Rattle.lexeme.proofs.Shrinks.{blanks_shrinks}
use Rattle.lexeme.proofs.StrongPrefixes.{blanks-of, solid-first, string_takes}
use Rattle.json_text.specs.Tree.{Json, Items}
use Rattle.json_text.specs.Text.{expect, value}
use Rattle.json_text.proofs.StrongPrefixes.{blanks_takes, expect_takes, value_consumes, value_takes}
use Rattle.json_text.proofs.Spellings.{expect-done}
use Rattle.walk.specs.declared.Item.{Item}
use Rattle.walk.specs.Walk.{offset_of, part, onward, member_in, member_at, item_in, item_at, items_from, items_of}
use Rattle.walk.specs.Part.{Whole}
use Rattle.walk.specs.inner.Along.{AlongItems, AlongMembers}
use Rattle.walk.proofs.Steps as step
use Rattle.walk.proofs.Steps.{onward-comma, onward-other, Reads, member_of, member-found, item-found}
use Rattle.walk.proofs.Places.{item-placed}
use Rattle.walk.proofs.Folds.{each, one_more_lem, item_steps, items-end}
use Rattle.walk.proofs.Parts.{item_of}
use Rattle.walk.proofs.Trees.{item_stops, member_stops}
use Rattle.walk.proofs.Along.{along-item, along-member}
use Rattle.std.specs.Prelude.{Some}

-- with t behind it: blanks, what is read up to more text, and places
module _ (t : List ℕ) where
  blanks-on : (m : List ℕ) (b : ℕ) (r : List ℕ) → blanks m ≡ b ∷ r → blanks (m ++ t) ≡ b ∷ (r ++ t)
  blanks-on m b r e =
      let k = blanks-of m in
      ap (λ (l : List ℕ). blanks (l ++ t)) (k.splits ∙ ap (λ (l : List ℕ). k.part ++ l) e)
      ∙ ap blanks (append_assoc k.part (b ∷ r) t) ∙ k.frame b (solid-first m b r e) (r ++ t)

  solid-on : (m : List ℕ) → 0 < length (blanks m) → blanks (m ++ t) ≡ blanks m ++ t
  solid-on m h = go (blanks m) refl
    where
      go : (l : List ℕ) → blanks m ≡ l → blanks (m ++ t) ≡ blanks m ++ t
      go [] e = absurd (omega (arith, ap length e))
      go (b ∷ r) e = blanks-on m b r e ∙ ap (λ (l : List ℕ). l ++ t) (sym e)

  goes_on : (r : List ℕ) {b : ℕ} {w : List ℕ} → blanks r ≡ b ∷ w → Settled r (r ++ t)
  unfolding blanks
  goes_on [] e = no_cons e
  goes_on (c ∷ r) e = alike

  read-on : {A : Type 0} (f : List ℕ → Read A) → StrongPrefix Settled f → (l r : List ℕ) (x : A) {b : ℕ} {w : List ℕ} → f l ≡ done x r → blanks r ≡ b ∷ w
      → f (l ++ t) ≡ done x (r ++ t)
  read-on f takes l r x e h =
      let k = takes l r x e in
      ap (λ (m : List ℕ). f (m ++ t)) k.splits ∙ ap f (append_assoc k.part r t) ∙ k.frame (r ++ t) (goes_on r h)

  place-on : (q l : List ℕ) → offset_of (q ++ t) (l ++ t) ≡ offset_of q l
  place-on q l = omega (arith, length-append q t, length-append l t)

  onward-on : (q r : List ℕ) (b : ℕ) (w : List ℕ) → blanks r ≡ b ∷ w → onward (q ++ t) (blanks (r ++ t)) ≡ onward q (blanks r)
  onward-on q r b w e =
      let f = blanks-on r b w e in
      by_test (eqb b 0x2c) (λ h. onward-comma (q ++ t) b (w ++ t) f h ∙ place-on q w ∙ sym (onward-comma q b w e h))
      (λ h. onward-other (q ++ t) b (w ++ t) f h ∙ place-on q (b ∷ w) ∙ sym (onward-other q b w e h))

-- a member that is read
module _ (t : List ℕ) {l name : List ℕ} {x : Json} {q r : List ℕ} (m : Reads l name x q r) {b : ℕ} {w : List ℕ} (f : blanks r ≡ b ∷ w) where
  abbrev valued : List ℕ → Read Json
  valued = expect 0x3a (λ z. value paired depth (blanks z))

  colon : (u : List ℕ) × (blanks q ≡ 0x3a ∷ u) × (value paired depth (blanks u) ≡ done x r)
  colon = expect-done 0x3a (λ z. value paired depth (blanks z)) (blanks q) r x m.valued

  behind_name : blanks (q ++ t) ≡ blanks q ++ t
  behind_name = solid-on t q (omega (arith, ap length colon.1))

  reads_on : Reads (l ++ t) name x (q ++ t) (r ++ t)
  reads_on =
      let k = expect_takes 0x22 (Strings.string paired 0) (string_takes paired 0) l q name m.named in
      let takes = expect_takes 0x3a (λ z. value paired depth (blanks z)) (blanks_takes (value paired depth) (value_consumes paired depth) (value_takes paired depth)) in
      record {
        named =
            ap (λ (z : List ℕ). expect 0x22 (Strings.string paired 0) (z ++ t)) k.splits
            ∙ ap (expect 0x22 (Strings.string paired 0)) (append_assoc k.part q t) ∙ k.frame (q ++ t) tt;
        valued = ap valued behind_name ∙ read-on t valued takes (blanks q) r x m.valued f;
      }

  value_on : (p : List ℕ) → offset_of (p ++ t) (blanks (drop 1 (blanks (q ++ t)))) ≡ offset_of p (blanks (drop 1 (blanks q)))
  value_on p =
      let (u, h, e) = colon in
      let some : 0 < length (blanks u) = omega (arith, value_consumes paired depth (blanks u) r x e) in
      ap (λ (z : List ℕ). offset_of (p ++ t) (blanks (drop 1 z))) (behind_name ∙ ap (λ (z : List ℕ). z ++ t) h) ∙ ap (offset_of (p ++ t)) (solid-on t u some) ∙ place-on t p (blanks u)
      ∙ sym (ap (λ (z : List ℕ). offset_of p (blanks (drop 1 z))) h)

  member_as : (p : List ℕ) → member_of (p ++ t) (l ++ t) (q ++ t) (r ++ t) ≡ member_of p l q r
  member_as p =
      let a = place-on t p l in let c = place-on t p q in let d = value_on p in let e = place-on t p r in let g = onward-on t p r b w f in
      rw (a, c, d, e, g)

-- the steps
module _ (q t : List ℕ) where
  front-on : (at : ℕ) → 0 < length (blanks (drop at q)) → blanks (drop at (q ++ t)) ≡ blanks (drop at q) ++ t
  front-on at h =
      let n : at ≤ length q = omega (arith, blanks_shrinks (drop at q), length-drop at q) in
      ap blanks (drop-append-le at q t n) ∙ solid-on t (drop at q) h

  closing_on : (at c : ℕ) (r : List ℕ) → blanks (drop at q) ≡ c ∷ r → blanks (drop at (q ++ t)) ≡ c ∷ (r ++ t)
  closing_on at c r e = front-on at (omega (arith, ap length e)) ∙ ap (λ (l : List ℕ). l ++ t) e

  item_on : {at : ℕ} → AlongItems q at → item_at (q ++ t) at ≡ item_at q at
  unfolding item_at
  item_on {at} a =
      ⊎_elim (λ y. item_stops (q ++ t) at (y.0 ++ t) (closing_on at 0x5d y.0 y.1) ∙ sym (item_stops q at y.0 y.1))
      (λ y.
      let l = blanks (drop at q) in let r = y.1 in
      let e = front-on at (omega (arith, value_consumes paired depth l r y.0 y.2)) in
      let v = read-on t (value paired depth) (value_takes paired depth) l r y.0 y.2 y.3.there in
      ap (item_in (q ++ t)) e ∙ item-found (q ++ t) (l ++ t) v ∙ same l r y.3.by y.3.behind y.3.there ∙ sym (item-found q l y.2)) (along-item q a)
    where
      same : (l r : List ℕ) (b : ℕ) (w : List ℕ) → blanks r ≡ b ∷ w → Some (step.item_of (q ++ t) (l ++ t) (r ++ t)) ≡ Some (step.item_of q l r)
      same l r b w f = let a = place-on t q l in let e = place-on t q r in let g = onward-on t q r b w f in rw (a, e, g)

  member-on : {at : ℕ} → AlongMembers q at → member_at (q ++ t) at ≡ member_at q at
  unfolding member_at
  member-on {at} a =
      ⊎_elim (λ y. member_stops (q ++ t) at (y.0 ++ t) (closing_on at 0x7d y.0 y.1) ∙ sym (member_stops q at y.0 y.1))
      (λ y.
      let l = blanks (drop at q) in
      let some : 0 < length l = omega (arith, ap length (expect-done 0x22 (Strings.string paired 0) l y.2 y.0 y.4.named).1) in
      ap (member_in (q ++ t)) (front-on at some) ∙ member-found (q ++ t) (l ++ t) (reads_on t y.4 y.5.there)
      ∙ ap Some (member_as t y.4 y.5.there q) ∙ sym (member-found q l y.4)) (along-member q a)

  -- an array or object at the front of q is at the front of the longer text
  front-taken : (n : ℕ) → take (length (take n q)) (q ++ t) ≡ take n q
  front-taken n =
      ap (λ (l : List ℕ). take (length (take n q)) (l ++ t)) (sym (take-append-drop n q))
      ∙ ap (take (length (take n q))) (append_assoc (take n q) (drop n q) t) ∙ take_at (take n q) (drop n q ++ t) (length (take n q)) refl

  items-along-on : {at : ℕ} → AlongItems q at → AlongItems (q ++ t) at
  items-along-on (AlongItems.start {is} w) = AlongItems.front (length q) (subst (λ (l : List ℕ). Whole l (Json.array is)) (sym (take_at q t (length q) refl)) w)
  items-along-on (AlongItems.front {is} n w) = AlongItems.front (length (take n q)) (subst (λ (l : List ℕ). Whole l (Json.array is)) (sym (front-taken n)) w)
  items-along-on (AlongItems.next a e) = AlongItems.next (items-along-on a) (item_on a ∙ e)

  members-along-on : {at : ℕ} → AlongMembers q at → AlongMembers (q ++ t) at
  members-along-on (AlongMembers.start {ms} w) = AlongMembers.front (length q) (subst (λ (l : List ℕ). Whole l (Json.object ms)) (sym (take_at q t (length q) refl)) w)
  members-along-on (AlongMembers.front {ms} n w) = AlongMembers.front (length (take n q)) (subst (λ (l : List ℕ). Whole l (Json.object ms)) (sym (front-taken n)) w)
  members-along-on (AlongMembers.next a e) = AlongMembers.next (members-along-on a) (member-on a ∙ e)

  -- all items
  items-from : (k j at : ℕ) → AlongItems q at → length q ≤ at + k → length (q ++ t) ≤ at + j → items_from j (q ++ t) at ≡ items_from k q at
  items-from zero j at a h i =
      ⊎_elim (λ e. items-end (q ++ t) j at (item_on a ∙ e) ∙ sym (items-end q zero at e))
      (λ f. let m = item-placed q at f.0 f.1 in absurd (omega arith)) ((item_steps q).either at)
  items-from (suc k) j at a h i =
      let ih = items-from k in
      ⊎_elim (λ e. items-end (q ++ t) j at (item_on a ∙ e) ∙ sym (items-end q (suc k) at e))
      (λ f.
      let (m, e) = f in
      let o = one_more_lem (item_steps (q ++ t)) j at m (item_on a ∙ e) i in
      o.2 ∙ ap (λ (l : List Item). m ∷ l) (ih o.0 m.next (AlongItems.next a e) (omega (arith, (item_steps q).later at m e)) o.1) ∙ sym ((item_steps q).more k at m e))
      ((item_steps q).either at)

  items-on : {is : Items} → Whole q (Json.array is) → items_of (q ++ t) ≡ items_of q
  unfolding items_of
  items-on w = items-from (length q) (length (q ++ t)) 1 (AlongItems.start w) (omega arith) (omega arith)

  part-on : (from upto : ℕ) → from ≤ upto → upto ≤ length q → part (q ++ t) from upto ≡ part q from upto
  part-on from upto h i =
      ap (take (upto - from)) (drop-append-le from q t (omega arith))
      ∙ take-append-le (upto - from) (drop from q) t (omega (arith, length-drop from q))

  each-item-on : (m : Item) → Memᴰ m (items_of q) → item_of (q ++ t) m ≡ item_of q m
  unfolding items_of
  each-item-on =
      each (item_steps q) (λ m. item_of (q ++ t) m ≡ item_of q m)
      (λ at m e. let k = item-placed q at m e in part-on m.value m.value_end (omega arith) (omega arith)) (length q) 1

-- The laws, of the array or object that the first n bytes of p are.
module _ (p : List ℕ) (n : ℕ) where
  whole-text : take n p ++ drop n p ≡ p
  whole-text = take-append-drop n p

  pub front_items : {is : Items} → Whole (take n p) (Json.array is) → items_of p ≡ items_of (take n p)
  front_items w = ap items_of (sym whole-text) ∙ items-on (take n p) (drop n p) w

  pub front-item : (m : Item) → Memᴰ m (items_of (take n p)) → item_of p m ≡ item_of (take n p) m
  front-item m i = ap (λ (l : List ℕ). item_of l m) (sym whole-text) ∙ each-item-on (take n p) (drop n p) m i

  pub front-step : {at : ℕ} → AlongItems (take n p) at → item_at p at ≡ item_at (take n p) at
  front-step {at} a = ap (λ (l : List ℕ). item_at l at) (sym whole-text) ∙ item_on (take n p) (drop n p) a

  pub front-items-along : {at : ℕ} → AlongItems (take n p) at → AlongItems p at
  front-items-along {at} a = subst (λ (l : List ℕ). AlongItems l at) whole-text (items-along-on (take n p) (drop n p) a)

  pub front_closing : (at c : ℕ) (r : List ℕ) → blanks (drop at (take n p)) ≡ c ∷ r → blanks (drop at p) ≡ c ∷ (r ++ drop n p)
  front_closing at c r e = ap (λ (l : List ℕ). blanks (drop at l)) (sym whole-text) ∙ closing_on (take n p) (drop n p) at c r e

  pub front-member : {at : ℕ} → AlongMembers (take n p) at → member_at p at ≡ member_at (take n p) at
  front-member {at} a = ap (λ (l : List ℕ). member_at l at) (sym whole-text) ∙ member-on (take n p) (drop n p) a

  pub front-along : {at : ℕ} → AlongMembers (take n p) at → AlongMembers p at
  front-along {at} a = subst (λ (l : List ℕ). AlongMembers l at) whole-text (members-along-on (take n p) (drop n p) a)

  pub front-part : (from upto : ℕ) → from ≤ upto → upto ≤ length (take n p) → part p from upto ≡ part (take n p) from upto
  front-part from upto h i = ap (λ (l : List ℕ). part l from upto) (sym whole-text) ∙ part-on (take n p) (drop n p) from upto h i

  -- what is made of each item and its bytes
  pub front-map : {A : Type 0} {is : Items} (f : Item → List ℕ → A) → Whole (take n p) (Json.array is)
      → map (λ m. f m (item_of p m)) (items_of p) ≡ map (λ m. f m (item_of (take n p) m)) (items_of (take n p))
  front-map {A} f w = ap (map (λ m. f m (item_of p m))) (front_items w) ∙ go (items_of (take n p)) front-item
    where
      go : (l : List Item) → ((m : Item) → Memᴰ m l → item_of p m ≡ item_of (take n p) m)
          → map (λ m. f m (item_of p m)) l ≡ map (λ m. f m (item_of (take n p) m)) l
      go [] h = refl
      go (m ∷ l) h =
          ap (λ (q : List ℕ). f m q ∷ map (λ m. f m (item_of p m)) l) (h m (Memᴰ.head refl))
          ∙ ap (λ (k : List A). f m (item_of (take n p) m) ∷ k) (go l (λ o i. h o (Memᴰ.tail i)))
