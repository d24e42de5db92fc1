-- A value at the front of some bytes is whole by itself, and ends where it is skipped to. An array or object that stands at the front, with anything behind
-- it, is walked over to its closing bracket, each element judged where it stands: whatever tells where an element ends takes the walk's own step.
use mathlib.Core.List.{List, [], ◌∷◌, ◌++◌}
use mathlib.Core.Logic.{⊎_elim}
use mathlib.Core.Path.{◌≡◌, sym, ap, subst, ◌∙◌}
use Prim.Native.Nat.{ℕ, zero, suc, ◌+◌, ◌-◌, ◌≤◌, ◌<◌}
use native.Mathlib.Omega.{arith}
use lib.ListN.{length, drop, take, length-drop, take-append-drop}
use lib.Seq.{drop-drop, length-take-le}
use Rattle.limits.specs.Ceilings.{depth}
use Rattle.lexeme.specs.Read.Read.{done}
use Rattle.lexeme.specs.Character.{paired, byte, within}
use Rattle.lexeme.specs.Numbers.{digit}
use Rattle.lexeme.specs.Tokens.{blanks}
use Rattle.lexeme.specs.inner.Start.{start}
use Rattle.lexeme.proofs.Rests.{place_at}
use Rattle.lexeme.proofs.Spans.{Skipped}
use Rattle.lexeme.proofs.Placed.{Lands}
use Rattle.json_text.specs.Tree.{Json, Items, Members}
use Rattle.json_text.specs.Text.{value}
use Rattle.json_text.proofs.Local.{value_local}
use Rattle.json_text.proofs.StrongPrefixes.{value_consumes, value_takes}
use Rattle.walk.specs.declared.Named.{Named}
use Rattle.walk.specs.Walk.{offset_of, part, onward, member_at, item_at}
use Rattle.walk.specs.Part.{Whole, kind_of}
use Rattle.walk.specs.inner.Kind.{kind_at}
use Rattle.walk.specs.inner.Skip.{skipped}
use Rattle.walk.specs.inner.Along.{AlongItems, AlongMembers, NamePassed}
use Rattle.walk.specs.inner.Front.{Fronts, Ends}
use Rattle.walk.proofs.Rests.{Rest, rest-drop, rest_read, rest-there}
use Rattle.walk.proofs.Steps.{member-found, item-found}
use Rattle.walk.proofs.Places.{found-member, next-found}
use Rattle.walk.proofs.Skips.{skip-value, skipped-none}
use Rattle.walk.proofs.Finding.{item-there}
use Rattle.walk.proofs.Wholes.{whole-some, whole-kind}
use Rattle.walk.proofs.Trees.{item_stops}
use Rattle.walk.proofs.Along.{along-item, along-member, items-closed, members-closed}
use Rattle.walk.proofs.Passing.{placed-next, from_at, front-end, front-found, member_is}
use Rattle.walk.proofs.Open.{front-step, front-items-along, front_closing, front-member, front-along, front-part}
use Rattle.std.specs.Prelude.{Some, None}

module _ {p : List ℕ} {x : Json} where
  -- what is read off the front, up to the rest t
  pub read-fronts : {t : List ℕ} → value paired depth p ≡ done x t → Fronts p x (length p - length t)
  read-fronts {t} e =
      let r : Rest p t = rest_read (value paired depth) (value_takes paired depth) p t x e (rest-drop 0) in
      record { reads = e ∙ ap (done x) (sym (rest-there r)); fits = omega arith }

  pub whole-fronts : Whole p x → Fronts p x (length p)
  whole-fronts w = let z : length p - 0 ≡ length p = omega arith in subst (Fronts p x) z (read-fronts w.reads)

  module _ {n : ℕ} where
    pub fronts-whole : Fronts p x n → Whole (take n p) x
    fronts-whole f = record { reads = value_local paired depth x (take n p) (drop n p) (ap (value paired depth) (take-append-drop n p) ∙ f.reads) }

    pub fronts-some : Fronts p x n → 0 < n
    fronts-some f = omega (arith, value_consumes paired depth p (drop n p) x f.reads, length-drop n p)

-- its first byte tells its kind
pub front-kind : (n : ℕ) (p : List ℕ) {x : Json} → Whole (take n p) x → kind_at p ≡ kind_of x
unfolding kind_at
front-kind zero p w = absurd (omega (arith, whole-some w))
front-kind (suc n) [] w = absurd (omega (arith, whole-some w))
front-kind (suc n) (b ∷ p) w = whole-kind w

pub skip-ends : (p : List ℕ) (e : ℕ) → e ≡ length p - length (skipped p) → Ends p e
skip-ends p e v =
    record {
      inside = omega arith;
      is = λ x n f. v ∙ ap (offset_of p) (skip-value depth x p (drop n p) f.reads) ∙ sym (place_at p n f.fits);
      none = λ h. v ∙ ap (offset_of p) (skipped-none p h) ∙ omega arith;
    }

-- the value's bytes are cut off the front
pub ends-cut : (p : List ℕ) (e : ℕ) → Ends p e → e ≡ length (take e p)
ends-cut p e f = sym (length-take-le e p f.inside)

-- a value that is read at v up to the rest t, and ends behind e bytes
module _ (p : List ℕ) (v e : ℕ) (f : Ends (drop v p) e) (x : Json) (t : List ℕ) (r : value paired depth (drop v p) ≡ done x t) where
  ends_at : e ≡ length (drop v p) - length t
  ends_at = f.is x (length (drop v p) - length t) (read-fronts r)

  ends-later : 0 < e
  ends-later = omega (arith, ends_at, fronts-some (read-fronts r))

  ends-rest : drop (v + e) p ≡ t
  ends-rest =
      let s : Rest (drop v p) t = rest_read (value paired depth) (value_takes paired depth) (drop v p) t x r (rest-drop 0) in
      sym (drop-drop e v p) ∙ ap (λ (k : ℕ). drop k (drop v p)) ends_at ∙ rest-there s

  ends_lands : v ≤ length p → Lands (value paired depth) p v (v + e)
  ends_lands h =
      record {
        what = x;
        reads = r ∙ ap (done x) (sym ends-rest);
        from = λ k. omega arith;
        upto = omega (arith, f.inside, length-drop v p);
      }

-- what comes behind a value of e bytes at v, to which blanks from `at` on lead
pub item-later : (p : List ℕ) (at v e : ℕ) → Skipped p at v → Ends (drop v p) e → 0 < e → (next : ℕ) → next ≡ onward p (blanks (drop (v + e) p))
    → (at < next) × (next ≤ length p)
item-later p at v e k f h next j =
    let upto : v + e ≤ length p = omega (arith, f.inside, length-drop v p, k.upto) in
    let o = placed-next p (v + e) next upto j in
    let l : at ≤ v = from_at p at v k (omega arith) in
    (omega (arith, o.0), o.1)

-- Steps over the array or object that the first n bytes of p are.
module _ (p : List ℕ) (n at : ℕ) where
  -- an item at v, if there is one
  module _ (v e : ℕ) (k : Skipped p at v) (f : Ends (drop v p) e) where
    pub item-ended : e ≡ 0 → AlongItems (take n p) at → item_at (take n p) at ≡ None
    item-ended z a =
        sym (front-step p n a)
        ∙ ⊎_elim (λ y. item_stops p at y.0 y.1)
        (λ y. absurd (omega (arith, ends-later p v e f y.0 y.1 (ap (value paired depth) k.rest ∙ y.2)))) (along-item p (front-items-along p n a))

    pub item_met : 0 < e → (next : ℕ) → next ≡ onward p (blanks (drop (v + e) p)) → AlongItems (take n p) at
        → item_at (take n p) at ≡ Some (record { value = v; value_end = v + e; next = next })
    unfolding start digit within
    item_met h next j a =
        sym (front-step p n a)
        ∙ ⊎_elim (λ y. absurd (omega (arith, f.none (ap (λ (l : List ℕ). start (byte l 0)) (k.rest ∙ y.1)))))
        (λ y. sym (item-there p at v k (v + e) next (ends_lands p v e f y.0 y.1 (ap (value paired depth) k.rest ∙ y.2) k.upto) j))
        (along-item p (front-items-along p n a))

  -- a member
  pub member-ended : NamePassed p at None → AlongMembers (take n p) at → member_at (take n p) at ≡ None
  member-ended f a = sym (front-member p n a) ∙ sym (front-end (member_at p at) (f.same (front-along p n a)))

  pub member_met : (m : Named) (e next : ℕ) → NamePassed p at (Some m) → Ends (drop m.value p) e → next ≡ onward p (blanks (drop (m.value + e) p))
      → AlongMembers (take n p) at
      → member_at (take n p) at ≡ Some (record { name = m.name; name_end = m.name_end; value = m.value; value_end = m.value + e; next = next })
  member_met m e next f g j a =
      let (o, i, h) = front-found (member_at p at) m (f.same (front-along p n a)) in
      let s = found-member p at o i in
      let k = s.spelt.placed in
      let r : value paired depth (drop m.value p) ≡ done s.tree (drop o.value_end p) =
      ap (λ (z : Named). value paired depth (drop z.value p)) h ∙ s.spelt.reads in
      let v : m.value ≡ o.value = ap (λ (z : Named). z.value) h in
      let ends : m.value + e ≡ o.value_end =
      omega (arith, ends_at p m.value e g s.tree _ r, length-drop m.value p, length-drop o.value_end p) in
      let on : next ≡ o.next = j ∙ ap (λ (z : ℕ). onward p (blanks (drop z p))) ends ∙ sym (next-found p at o i) in
      sym (front-member p n a) ∙ i ∙ sym (member_is m (m.value + e) next o h ends on)

  -- the closing bracket
  module _ (e : ℕ) (c : e ≡ length p - length (drop 1 (blanks (drop at p)))) (h : n ≤ length p) where
    closed_at : (b : ℕ) (q : List ℕ) → [] ≡ q → blanks (drop at (take n p)) ≡ b ∷ q → e ≡ n
    closed_at b q z k =
        c ∙ ap (λ (l : List ℕ). length p - length (drop 1 l)) (front_closing p n at b q k) ∙ ap (λ (l : List ℕ). length p - length (l ++ drop n p)) (sym z)
        ∙ sym (place_at p n h)

    pub items-end : {is : Items} → Whole (take n p) (Json.array is) → AlongItems (take n p) at → item_at (take n p) at ≡ None → e ≡ n
    unfolding item_at
    items-end w a i =
        ⊎_elim (λ y. closed_at 0x5d y.0 (items-closed (take n p) w a y.0 y.1) y.1)
        (λ y. let o = item-found (take n p) (blanks (drop at (take n p))) y.2 in let z : ◌≡◌ {A = ℕ} 0 1 = cc (i, o) in absurd (omega arith)) (along-item (take n p) a)

    pub members-end : {ms : Members} → Whole (take n p) (Json.object ms) → AlongMembers (take n p) at → member_at (take n p) at ≡ None → e ≡ n
    unfolding member_at
    members-end w a i =
        ⊎_elim (λ y. closed_at 0x7d y.0 (members-closed (take n p) w a y.0 y.1) y.1)
        (λ y. let o = member-found (take n p) (blanks (drop at (take n p))) y.4 in let z : ◌≡◌ {A = ℕ} 0 1 = cc (i, o) in absurd (omega arith))
        (along-member (take n p) a)

  -- the bytes of an element
  pub cut-same : (v e : ℕ) → v + e ≤ length (take n p) → take e (drop v p) ≡ part (take n p) v (v + e)
  cut-same v e h = let k : e ≡ v + e - v = omega arith in ap (λ (z : ℕ). take z (drop v p)) k ∙ front-part p n v (v + e) (omega arith) h
