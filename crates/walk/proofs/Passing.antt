-- A step that passes over a value, as the code takes it: what it finds stands in order in any bytes, and along a whole array or object the value was
-- read there, so that it ends where it is skipped to.
use mathlib.Core.Bool.{false}
use mathlib.Core.List.{List, ◌∷◌}
use mathlib.Core.Logic.{⊎_elim}
use mathlib.Core.Path.{◌≡◌, refl, sym, ap, subst, ◌∙◌}
use Prim.Native.Nat.{ℕ, ◌+◌, ◌-◌, ◌≤◌, ◌<◌}
use native.Mathlib.Omega.{arith}
use lib.ListN.{length, drop, length-drop}
use Rattle.limits.specs.Ceilings.{depth}
use Rattle.lexeme.specs.Read.Read.{done}
use Rattle.lexeme.specs.Character.{paired, byte, within}
use Rattle.lexeme.specs.Numbers.{digit}
use Rattle.lexeme.specs.Strings
use Rattle.lexeme.specs.Tokens.{blanks}
use Rattle.lexeme.specs.inner.Start.{Start, start}
use Rattle.lexeme.proofs.NumberParts.{equal-inside}
use Rattle.lexeme.proofs.Placed.{Lands}
use Rattle.lexeme.proofs.Rests.{next-drop, place_at}
use Rattle.lexeme.proofs.Shrinks.{blanks_shrinks}
use Rattle.lexeme.proofs.Spans.{Skipped}
use Rattle.json_text.specs.Tree.{Json}
use Rattle.json_text.specs.Text.{expect, value}
use Rattle.json_text.proofs.StrongPrefixes.{value_consumes, value_takes}
use Rattle.json_text.proofs.Values.{expect-absent}
use Rattle.json_text.proofs.Spellings.{expect-done}
use Rattle.walk.specs.declared.Member.{Member}
use Rattle.walk.specs.declared.Item.{Item}
use Rattle.walk.specs.declared.Named.{Named}
use Rattle.walk.specs.Walk.{offset_of, onward, member_at}
use Rattle.walk.specs.inner.Skip.{quoted, skipped}
use Rattle.walk.specs.inner.Along.{Placed, NamePlaced, ItemPlaced, ItemPassed, MemberPassed, front_of, NamePassed}
use Rattle.walk.proofs.Rests.{Rest, rest-drop, rest_read, rest-inside, rest-there}
use Rattle.walk.proofs.Steps.{Reads, member_unnamed}
use Rattle.walk.proofs.Places.{onward-later, member-placed, found-member, next-found}
use Rattle.walk.proofs.Quotes.{string-quoted}
use Rattle.walk.proofs.Skips.{skip-value, skipped-none}
use Rattle.walk.proofs.Ends.{Ended}
use Rattle.walk.proofs.Finding.{item-there, member-here, member_colonless, member-there}
use Rattle.walk.proofs.Trees.{item_stops, member_stops}
use Rattle.walk.proofs.Along.{along-item, along-member}
use Rattle.std.specs.Prelude.{Option, Some, None}

-- the place after an element that ends at e
pub placed-next : (p : List ℕ) (e n : ℕ) → e ≤ length p → n ≡ onward p (blanks (drop e p)) → (e ≤ n) × (n ≤ length p)
placed-next p e n h k =
    let o = onward-later p (drop e p) (omega (arith, length-drop e p)) in
    let z : e ≡ offset_of p (drop e p) = place_at p e h in
    rw k (omega (arith, o.0), o.1)

-- blanks are passed forwards
pub from_at : (p : List ℕ) (at i : ℕ) → Skipped p at i → i < length p → at ≤ i
from_at p at i k h = omega (arith, ap length k.rest, blanks_shrinks (drop at p), length-drop at p, length-drop i p)

-- what is found is placed where it was put
item_as : (p : List ℕ) (at : ℕ) {r : Item} (m : Item) → Some r ≡ Some m → ItemPlaced p at r → ItemPlaced p at m
item_as p at {r} m e h = let same : r ≡ m = cc in subst (ItemPlaced p at) same h

name_as : (p : List ℕ) (at : ℕ) {r : Named} (m : Named) → Some r ≡ Some m → NamePlaced p at r → NamePlaced p at m
name_as p at {r} m e h = let same : r ≡ m = cc in subst (NamePlaced p at) same h

member_as : (p : List ℕ) (at : ℕ) {r : Member} (m : Member) → Some r ≡ Some m → Placed p at r → Placed p at m
member_as p at {r} m e h = let same : r ≡ m = cc in subst (Placed p at) same h

-- a value that is read at i and skipped to e
module _ (p : List ℕ) (i e : ℕ) (v : e ≡ length p - length (skipped (drop i p))) (x : Json) (t : List ℕ) (r : value paired depth (drop i p) ≡ done x t) where
  ends_there : e ≡ offset_of p t
  ends_there = v ∙ ap (offset_of p) (skip-value depth x (drop i p) t r)

  rest : Rest p t
  rest = rest_read (value paired depth) (value_takes paired depth) (drop i p) t x r (rest-drop i)

  read-later : i < e
  read-later = omega (arith, ends_there, value_consumes paired depth (drop i p) t x r, rest-inside rest, length-drop i p)

  read_lands : Lands (value paired depth) p i e
  read_lands =
      record {
        what = x;
        reads = r ∙ ap (done x) (sym (ap (λ (z : ℕ). drop z p) ends_there ∙ rest-there rest));
        from = λ h. omega (arith, read-later);
        upto = omega (arith, ends_there);
      }

-- where no value begins, nothing is skipped
skips_none : (p : List ℕ) (i e c : ℕ) (q : List ℕ) → start c ≡ Start.other → drop i p ≡ c ∷ q → e ≡ length p - length (skipped (drop i p)) → i ≤ length p → e ≡ i
skips_none p i e c q o h v k =
    v ∙ ap (offset_of p) (skipped-none (drop i p) (ap (λ (l : List ℕ). start (byte l 0)) h ∙ o)) ∙ sym (place_at p i k)

module _ (p : List ℕ) (at i : ℕ) (k : Skipped p at i) (e : ℕ) (v : e ≡ length p - length (skipped (drop i p))) where
  pub item_unpassed : e ≤ i → ItemPassed p at None
  item_unpassed h =
      record {
        placed = λ m c. let z : ◌≡◌ {A = ℕ} 0 1 = cc in absurd (omega arith);
        same = λ a.
            ⊎_elim (λ y. sym (item_stops p at y.0 y.1))
            (λ y. absurd (omega (arith, read-later p i e v y.0 y.1 (ap (value paired depth) k.rest ∙ y.2)))) (along-item p a);
      }

  pub item_passed : i < e → (n : ℕ) → n ≡ onward p (blanks (drop e p)) → ItemPassed p at (Some (record { value = i; value_end = e; next = n }))
  unfolding start digit within
  item_passed h n j =
      let upto : e ≤ length p = omega arith in
      let o = placed-next p e n upto j in
      record {
        placed = λ m c.
            item_as p at m c (record { later = from_at p at i k (omega arith); value = h; next = o.0; inside = o.1 });
        same = λ a.
            ⊎_elim (λ y. absurd (omega (arith, skips_none p i e 0x5d y.0 refl (k.rest ∙ y.1) v k.upto)))
            (λ y. item-there p at i k e n (read_lands p i e v y.0 y.1 (ap (value paired depth) k.rest ∙ y.2)) j) (along-item p a);
      }

-- the front of a member, and back from it to what was found
pub front-end : (o : Option Member) → None ≡ front_of o → None ≡ o
front-end None e = refl
front-end (Some m) e = let z : ◌≡◌ {A = ℕ} 0 1 = cc in absurd (omega arith)

pub front-found : (o : Option Member) (n : Named) → Some n ≡ front_of o
    → (m : Member) × (o ≡ Some m) × (n ≡ record { name = m.name; name_end = m.name_end; value = m.value })
front-found None n e = let z : ◌≡◌ {A = ℕ} 0 1 = cc in absurd (omega arith)
front-found (Some m) n e = (m, refl, cc)

module _ (p : List ℕ) (at i : ℕ) (k : Skipped p at i) where
  pub name-unmarked : (byte (drop i p) 0 ≡ 0x22 → ⊥) → NamePassed p at None
  name-unmarked n =
      record {
        placed = λ m c. let z : ◌≡◌ {A = ℕ} 0 1 = cc in absurd (omega arith);
        same = λ a. sym (ap front_of (member-here p at i k ∙ member_unnamed p (drop i p) (expect-absent 0x22 _ p i n)));
      }

  module _ (j c : ℕ) (named : Ended p (i + 1) j) (w : Skipped p j c) where
    -- the name that is read there ends where the string does
    module _ {name : List ℕ} {x : Json} {q t : List ℕ} (r : Reads (blanks (drop at p)) name x q t) where
      quote-here : (l : List ℕ) × (drop i p ≡ 0x22 ∷ l) × (Strings.string paired 0 l ≡ done name q)
      quote-here = expect-done 0x22 (Strings.string paired 0) (drop i p) q name (ap (expect 0x22 (Strings.string paired 0)) k.rest ∙ r.named)

      after-name : drop j p ≡ q
      after-name =
          let (l, h, s) = quote-here in
          named.rest ∙ ap (quoted false) (sym (next-drop p i) ∙ ap (drop 1) h) ∙ string-quoted l name q s

      name_lands : Lands (expect 0x22 (Strings.string paired 0)) p i j
      name_lands =
          record {
            what = name;
            reads = ap (expect 0x22 (Strings.string paired 0)) k.rest ∙ r.named ∙ ap (done name) (sym after-name);
            from = λ h. let n : i + 1 ≤ length p = omega (arith, ap length quote-here.1, length-drop i p) in omega (arith, named.from n);
            upto = named.upto;
          }

      -- the value stands past the colon
      value_there : (s : ℕ) → Skipped p (c + 1) s → value paired depth (drop s p) ≡ done x t
      value_there s u =
          let (m, h, f) = expect-done 0x3a (λ r. value paired depth (blanks r)) (blanks q) t x r.valued in
          ap (value paired depth) (u.rest ∙ ap blanks (sym (next-drop p c) ∙ ap (drop 1) (w.rest ∙ ap blanks after-name ∙ h))) ∙ f

    pub name_uncoloned : (byte (drop c p) 0 ≡ 0x3a → ⊥) → NamePassed p at None
    name_uncoloned n =
        record {
          placed = λ m h. let z : ◌≡◌ {A = ℕ} 0 1 = cc in absurd (omega arith);
          same = λ a.
              ap front_of (⊎_elim (λ y. sym (member_stops p at y.0 y.1)) (λ y. member_colonless p at i k j c (name_lands y.4) w n) (along-member p a));
        }

    pub name_passed : (s : ℕ) → Skipped p (c + 1) s → byte (drop i p) 0 ≡ 0x22 → byte (drop c p) 0 ≡ 0x3a
        → NamePassed p at (Some (record { name = i + 1; name_end = j - 1; value = s }))
    name_passed s u quote colon =
        let here : i < length p = equal-inside 0x22 refl p i quote in
        let there : c < length p = equal-inside 0x3a refl p c colon in
        let first : at ≤ i = from_at p at i k here in
        let second : i + 1 ≤ j = named.from (omega arith) in
        let third : j ≤ c = w.from named.upto in
        let fourth : c + 1 ≤ s = u.from (omega arith) in
        let closed : i + 1 < j = named.later (omega arith) in
        let inside : s ≤ length p = u.upto in
        record {
          placed = λ m g.
              name_as p at m g (record { later = omega arith; name = omega arith; apart = omega arith; inside = inside });
          same = λ a.
              ap front_of
              (⊎_elim (λ y. absurd (omega (arith, quote, ap (λ (l : List ℕ). byte l 0) (k.rest ∙ y.1))))
              (λ y. member-there p at i k j c (name_lands y.4) w s colon u _ _ (read_lands p s _ refl y.1 y.3 (value_there y.4 s u)) refl) (along-member p a));
        }

-- a member from its front on
pub member-absent : (p : List ℕ) (at : ℕ) → NamePassed p at None → MemberPassed p at None
member-absent p at f =
    record { placed = λ m c. let z : ◌≡◌ {A = ℕ} 0 1 = cc in absurd (omega arith); same = λ a. front-end (member_at p at) (f.same a) }

-- where the value of a member that is found was read
module _ (p : List ℕ) (at : ℕ) (m : Member) (f : member_at p at ≡ Some m) where
  value_read : (x : Json) × (value paired depth (drop m.value p) ≡ done x (drop m.value_end p))
  value_read = let s = found-member p at m f in (s.tree, s.spelt.reads)

pub member_is : (n : Named) (e next : ℕ) (m : Member) → n ≡ record { name = m.name; name_end = m.name_end; value = m.value } → e ≡ m.value_end → next ≡ m.next
    → Some (record { name = n.name; name_end = n.name_end; value = n.value; value_end = e; next = next }) ≡ Some m
member_is n e next m j ends on =
    let one : n.name ≡ m.name = ap (λ (k : Named). k.name) j in
    let two : n.name_end ≡ m.name_end = ap (λ (k : Named). k.name_end) j in
    let three : n.value ≡ m.value = ap (λ (k : Named). k.value) j in
    rw (one, two, three, ends, on)

module _ (p : List ℕ) (n : Named) (e : ℕ) (v : e ≡ length p - length (skipped (drop n.value p))) (at : ℕ) (f : NamePassed p at (Some n)) where
  pub member_unpassed : e ≤ n.value → MemberPassed p at None
  member_unpassed h =
      record {
        placed = λ m c. let z : ◌≡◌ {A = ℕ} 0 1 = cc in absurd (omega arith);
        same = λ a.
            let (m, i, j) = front-found (member_at p at) n (f.same a) in
            let (x, r) = value_read p at m i in
            absurd (omega (arith, read-later p n.value e v x _ (ap (λ (k : Named). value paired depth (drop k.value p)) j ∙ r)));
      }

  pub member_passed : n.value < e → (next : ℕ) → next ≡ onward p (blanks (drop e p))
      → MemberPassed p at (Some (record { name = n.name; name_end = n.name_end; value = n.value; value_end = e; next = next }))
  member_passed h next z =
      let upto : e ≤ length p = omega arith in
      let o = placed-next p e next upto z in
      let g = f.placed n refl in
      record {
        placed = λ m c. member_as p at m c (record { later = g.later; name = g.name; apart = g.apart; value = h; next = o.0; inside = o.1 });
        same = λ a.
            let (m, i, j) = front-found (member_at p at) n (f.same a) in
            let (x, r) = value_read p at m i in
            let placed = member-placed p at m i in
            let w : e ≡ length p - length (skipped (drop m.value p)) = v ∙ ap (λ (k : Named). length p - length (skipped (drop k.value p))) j in
            let inside : m.value_end ≤ length p = omega arith in
            let ends : e ≡ m.value_end = ends_there p m.value e w x _ r ∙ sym (place_at p m.value_end inside) in
            let on : next ≡ m.next = z ∙ ap (λ (k : ℕ). onward p (blanks (drop k p))) ends ∙ sym (next-found p at m i) in
            member_is n e next m j ends on ∙ sym i;
      }
