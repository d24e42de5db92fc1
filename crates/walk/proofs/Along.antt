-- A walk along a whole array or object stands before an element or at the closing bracket, wherever it has come to: reading met the elements one after
-- another up to that bracket, and each step goes past the next of them.
use mathlib.Core.Bool.{true}
use mathlib.Core.List.{List, [], ◌∷◌, ◌++◌, append-nil, foldl}
use mathlib.Core.Logic.{◌⊎◌, inl, inr, ⊎_elim}
use mathlib.Core.Path.{◌≡◌, refl, sym, ap, subst, ◌∙◌}
use Prim.Native.Nat.{ℕ, suc, ◌≤◌, ◌<◌}
use native.Mathlib.Omega.{arith}
use lib.ListN.{length, drop, take, take-append-drop}
use lib.Seq.{take-length, drop-length, drop-append-le}
use lib.Dec.{eqb}
use borrow.Author.Tests.{eqb-true}
use Rattle.limits.specs.Ceilings.{depth}
use Rattle.notation.proofs.Booleans.{by_test}
use Rattle.lexeme.specs.Read.{Read}
use Rattle.lexeme.specs.Read.Read.{done}
use Rattle.lexeme.specs.Character.{paired, byte, within}
use Rattle.lexeme.specs.Strings as Strings
use Rattle.lexeme.specs.Numbers.{either, digit}
use Rattle.lexeme.specs.Tokens.{blanks}
use Rattle.lexeme.specs.inner.Start.{start}
use Rattle.lexeme.proofs.Reading.{Any, StrongPrefix}
use Rattle.lexeme.proofs.Steps.{bad-done, done-rest, made-done}
use Rattle.json_text.specs.Tree.{Json, Items, Members}
use Rattle.json_text.specs.Text.{contents, bracketed, value}
use Rattle.json_text.proofs.Steps.{contents-end, contents-none, contents-some}
use Rattle.json_text.specs.Text.After.{closed, more}
use Rattle.json_text.proofs.Bound.{Follows, at_close, at-comma, follows_as, Run, faulty, last, next, broken, run}
use Rattle.json_text.proofs.StrongPrefixes.{bracketed_takes}
use Rattle.json_text.proofs.Values.{value_none}
use Rattle.json_text.proofs.Spellings.{expect-done}
use Rattle.walk.specs.declared.Member.{Member}
use Rattle.walk.specs.Walk.{onward, member_at, members_of}
use Rattle.walk.specs.Part.{Whole}
use Rattle.walk.specs.inner.Along.{AlongItems, AlongMembers, MemberPassed}
use Rattle.walk.proofs.Steps.{Reads}
use Rattle.walk.proofs.Folds as Folds
use Rattle.walk.proofs.Folds.{Walk, walk_more, walk_end, member_steps}
use Rattle.walk.proofs.Wholes.{whole-some, whole-array, whole-object}
use Rattle.walk.proofs.Trees.{Elements, next-closes, next-begins, leaves, deepen, items_within, member-reads, members_within}
use Rattle.std.specs.Prelude.{Option, Some, None}

-- l begins with the closing bracket, or with elements up to it; q stands behind it
data Stands {A : Type 0} (close : ℕ) (element : List ℕ → Read A) (q l : List ℕ) : Type 0 where
  closing : l ≡ close ∷ q → Stands close element q l
  going : {o : Read (List A)} {xs : List A} → Run close element l o → o ≡ done xs q → Stands close element q l

-- the closing bracket or a comma follows r
pub record Followed (close : ℕ) (r : List ℕ) : Type 0 where
  pub by : ℕ
  pub behind : List ℕ
  pub there : blanks r ≡ by ∷ behind
  pub is : either close 0x2c by ≡ true

followed_closed : {close : ℕ} {r q : List ℕ} → Follows close r (closed q) → Followed close r
unfolding either
followed_closed (at_close e h) = record { by = _; behind = _; there = e; is = rw h }

followed_more : {close : ℕ} {r q : List ℕ} → Follows close r (more q) → Followed close r
unfolding either
followed_more (at-comma e h c) = record { by = _; behind = _; there = e; is = rw (h, c) }

-- what is read there
stands-reads : {A : Type 0} {close : ℕ} {element : List ℕ → Read A} {b l : List ℕ} → Stands close element b l
    → ((q : List ℕ) × (l ≡ close ∷ q)) ⊎ ((x : A) × (r : List ℕ) × (element l ≡ done x r) × Followed close r)
stands-reads {b = b} (closing e) = inl (b, e)
stands-reads (going (faulty e) i) = bad-done i
stands-reads (going (broken e j) i) = bad-done i
stands-reads {close = close} (going (last {r = r} {x = x} e j) i) = inr (x, r, e, followed_closed (follows_as close r j))
stands-reads {close = close} (going (next {r = r} {x = x} e j u) i) = inr (x, r, e, followed_more (follows_as close r j))

-- what stands behind the closing bracket, where no element begins with one
stands_behind : {A : Type 0} {close : ℕ} {element : List ℕ → Read A} {b q l : List ℕ} → Stands close element b l → l ≡ close ∷ q
    → ((x : A) (r : List ℕ) → element (close ∷ q) ≡ done x r → ⊥) → b ≡ q
stands_behind (closing e) h n = ap (drop 1) (sym e ∙ h)
stands_behind (going (faulty e) i) h n = bad-done i
stands_behind (going (broken e j) i) h n = bad-done i
stands_behind {element = element} (going (last {r = r} {x = x} e j) i) h n = absurd (n x r (ap element (sym h) ∙ e))
stands_behind {element = element} (going (next {r = r} {x = x} e j u) i) h n = absurd (n x r (ap element (sym h) ∙ e))

-- what stands between the brackets of the first n bytes of p is read the same in p
opened : {A : Type 0} (f : List ℕ → Read A) → StrongPrefix Any f → (p : List ℕ) (n : ℕ) (x : A) → 0 < length (take n p) → f (drop 1 (take n p)) ≡ done x [] → f (drop 1 p) ≡ done x (drop n p)
opened f takes p n x h e =
    let k = takes (drop 1 (take n p)) [] x e in
    ap (λ (l : List ℕ). f (drop 1 l)) (sym (take-append-drop n p))
    ∙ ap f (drop-append-le 1 (take n p) (drop n p) h ∙ ap (λ (l : List ℕ). l ++ drop n p) (k.splits ∙ append-nil k.part))
    ∙ k.frame (drop n p) tt

module _ {p : List ℕ} {M A : Type 0} (elements : Elements p M A) where
  open elements use {steps as w, close, apart, element, consumes, takes, meets, stops}

  abbrev StandsAt : List ℕ → ℕ → Type 0
  StandsAt b at = Stands close element b (blanks (drop at p))

  -- a step finds one element or none
  found-once : (at : ℕ) (m n : M) → w.Finds at m → w.Finds at n → m ≡ n
  found-once at m n h k = cc (w.more 0 at m h, w.more 0 at n k)

  found_none : {B : Type 0} (at : ℕ) (m : M) → w.Finds at m → w.Ends at → B
  found_none at m h k = let z : ◌≡◌ {A = ℕ} 0 1 = cc (w.more 0 at m h, w.end 1 at k) in absurd (omega arith)

  -- where the next element is looked for, after x with the rest r
  onward-from : (at : ℕ) (m : M) (x : A) (r : List ℕ) → w.Finds at m → element (blanks (drop at p)) ≡ done x r → w.next m ≡ onward p (blanks r)
  onward-from at m x r h e = let t = meets at x r e in ap w.next (found-once at m t.what h t.finds) ∙ t.next

  stands-start : (at : ℕ) (xs : List A) (r : List ℕ) → bracketed close element (drop at p) ≡ done xs r → StandsAt r at
  unfolding bracketed
  stands-start at xs r e = go (blanks (drop at p)) e
    where
      go : (l : List ℕ) → contents close element l ≡ done xs r → Stands close element r l
      go [] h = bad-done (sym (contents-end close element) ∙ h)
      go (b ∷ l) h =
          by_test (eqb b close)
          (λ t. closing (ap (λ (c : ℕ). c ∷ l) (eqb-true b close t) ∙ ap (λ (q : List ℕ). close ∷ q) (done-rest (sym (contents-none close element b l t) ∙ h))))
          (λ t. going (run close element consumes (suc (length (b ∷ l))) (b ∷ l) (omega arith)) (sym (contents-some close element b l t) ∙ h))

  stands-next : (at : ℕ) (m : M) (b : List ℕ) → w.Finds at m → StandsAt b at → StandsAt b (w.next m)
  stands-next at m b h (closing e) = found_none at m h (stops at b e)
  stands-next at m b h (going (faulty e) i) = bad-done i
  stands-next at m b h (going (broken e j) i) = bad-done i
  stands-next at m b h (going (last {r = r} {q = q} {x = x} e j) i) =
      closing
      (next-closes p close (w.next m) r q (leaves p element takes at x r e) apart (follows_as close r j) (onward-from at m x r h e)
      ∙ ap (λ (z : List ℕ). close ∷ z) (done-rest i))
  stands-next at m b h (going (next {r = r} {q = q} {x = x} {o = o} e j u) i) =
      let y = made-done (λ ys. x ∷ ys) o _ _ i in
      subst (Stands close element b)
      (sym (next-begins p close (w.next m) r q (leaves p element takes at x r e) (follows_as close r j) (onward-from at m x r h e)))
      (going u y.1)

-- a number of levels within which the elements of the first bytes of p are read, with b behind their closing bracket
record Level {p : List ℕ} {M A : Type 0} (elements : (d : ℕ) → d ≤ depth → Elements p M A) (b : List ℕ) : Type 0 where
  levels : ℕ
  less : levels ≤ depth
  stands : StandsAt (elements levels less) b 1

module _ {p : List ℕ} {M A : Type 0} (elements : (d : ℕ) → d ≤ depth → Elements p M A) where
  level : (n d : ℕ) (h : d ≤ depth) (xs : List A) → 0 < length (take n p)
      → bracketed (elements d h).close (elements d h).element (drop 1 (take n p)) ≡ done xs [] → Level elements (drop n p)
  level n d h xs some e =
      let k = elements d h in
      let r = opened _ (bracketed_takes k.close k.element k.consumes k.takes) p n xs some e in
      record { levels = d; less = h; stands = stands-start k 1 xs (drop n p) r }

-- along an array: its closing bracket, or an item
module _ (p : List ℕ) where
  items_level : (n : ℕ) {is : Items} → Whole (take n p) (Json.array is) → Level (items_within p) (drop n p)
  items_level n w = let o = whole-array w in level (items_within p) n o.levels (omega (arith, o.less)) o.elements (whole-some w) o.reads

  items-all : {is : Items} → Whole p (Json.array is) → Level (items_within p) (drop (length p) p)
  items-all {is} w = items_level (length p) (subst (λ (q : List ℕ). Whole q (Json.array is)) (sym (take-length p)) w)

  items-begun : {at : ℕ} → AlongItems p at → (n : ℕ) × Level (items_within p) (drop n p)
  items-begun (AlongItems.start w) = (length p, items-all w)
  items-begun (AlongItems.front n w) = (n, items_level n w)
  items-begun (AlongItems.next a e) = items-begun a

  -- what stands behind the array stands there all along
  items_stand : (d : ℕ) (h : d ≤ depth) (b : List ℕ) → StandsAt (items_within p d h) b 1 → {at : ℕ} → AlongItems p at → StandsAt (items_within p d h) b at
  items_stand d h b s (AlongItems.start w) = s
  items_stand d h b s (AlongItems.front n w) = s
  items_stand d h b s (AlongItems.next {at} {m} a e) = stands-next (items_within p d h) at m b e (items_stand d h b s a)

  pub along-item : {at : ℕ} → AlongItems p at
      → ((q : List ℕ) × (blanks (drop at p) ≡ 0x5d ∷ q)) ⊎ ((x : Json) × (t : List ℕ) × (value paired depth (blanks (drop at p)) ≡ done x t) × Followed 0x5d t)
  along-item {at} a =
      let (n, s) = items-begun a in
      ⊎_elim inl (λ y. inr (y.0, y.1, deepen s.levels s.less (blanks (drop at p)) y.1 y.0 y.2, y.3))
      (stands-reads (items_stand s.levels s.less (drop n p) s.stands a))

  -- a whole array ends with its closing bracket
  pub items-closed : {is : Items} → Whole p (Json.array is) → {at : ℕ} → AlongItems p at → (q : List ℕ) → blanks (drop at p) ≡ 0x5d ∷ q → [] ≡ q
  unfolding start digit within
  items-closed w a q e =
      let s = items-all w in
      sym (drop-length p)
      ∙ stands_behind (items_stand s.levels s.less (drop (length p) p) s.stands a) e (λ x r h. bad-done (sym (value_none s.levels (0x5d ∷ q) refl) ∙ h))

-- along an object: its closing bracket, or a member
module _ (p : List ℕ) where
  members_level : (n : ℕ) {ms : Members} → Whole (take n p) (Json.object ms) → Level (members_within p) (drop n p)
  members_level n w = let o = whole-object w in level (members_within p) n o.levels (omega (arith, o.less)) o.elements (whole-some w) o.reads

  members-all : {ms : Members} → Whole p (Json.object ms) → Level (members_within p) (drop (length p) p)
  members-all {ms} w = members_level (length p) (subst (λ (q : List ℕ). Whole q (Json.object ms)) (sym (take-length p)) w)

  members-begun : {at : ℕ} → AlongMembers p at → (n : ℕ) × Level (members_within p) (drop n p)
  members-begun (AlongMembers.start w) = (length p, members-all w)
  members-begun (AlongMembers.front n w) = (n, members_level n w)
  members-begun (AlongMembers.next a e) = members-begun a

  members_stand : (d : ℕ) (h : d ≤ depth) (b : List ℕ) → StandsAt (members_within p d h) b 1 → {at : ℕ} → AlongMembers p at → StandsAt (members_within p d h) b at
  members_stand d h b s (AlongMembers.start w) = s
  members_stand d h b s (AlongMembers.front n w) = s
  members_stand d h b s (AlongMembers.next {at} {m} a e) = stands-next (members_within p d h) at m b e (members_stand d h b s a)

  pub along-member : {at : ℕ} → AlongMembers p at
      → ((q : List ℕ) × (blanks (drop at p) ≡ 0x7d ∷ q))
      ⊎ ((name : List ℕ) × (x : Json) × (q : List ℕ) × (t : List ℕ) × Reads (blanks (drop at p)) name x q t × Followed 0x7d t)
  along-member {at} a =
      let (n, s) = members-begun a in
      ⊎_elim inl (λ y. let r = member-reads p s.levels s.less (blanks (drop at p)) y.1 y.0 y.2 in inr (y.0.0, y.0.1, r.0, y.1, r.1, y.3))
      (stands-reads (members_stand s.levels s.less (drop n p) s.stands a))

  -- a whole object ends with its closing bracket
  pub members-closed : {ms : Members} → Whole p (Json.object ms) → {at : ℕ} → AlongMembers p at → (q : List ℕ) → blanks (drop at p) ≡ 0x7d ∷ q → [] ≡ q
  members-closed w a q e =
      let s = members-all w in
      sym (drop-length p)
      ∙ stands_behind (members_stand s.levels s.less (drop (length p) p) s.stands a) e (λ x r h.
      let f = member-reads p s.levels s.less (0x7d ∷ q) r x h in
      let g = expect-done 0x22 (Strings.string paired 0) (0x7d ∷ q) f.0 x.0 f.1.named in
      let z : ◌≡◌ {A = ℕ} 0x7d 0x22 = ap (λ (l : List ℕ). byte l 0) g.1 in omega arith)

-- A loop that passes over values, for any fold over members: its invariant is that the walk has come to `at`, and the fold will come to r.
module _ (p : List ℕ) {A : Type 0} (g : A → Member → A) where
  abbrev pub MembersAlong : A → ℕ → A → Type 0
  MembersAlong s at r = AlongMembers p at × Walk (member_steps p) g s at r

  pub members-along : {ms : Members} → Whole p (Json.object ms) → (s : A) → MembersAlong s 1 (foldl g s (members_of p))
  members-along w s = (AlongMembers.start w, Folds.members-start p g s)

  pub members-along-next : (s : A) (at : ℕ) (r : A) (m : Member) → member_at p at ≡ Some m → MembersAlong s at r → MembersAlong (g s m) m.next r
  members-along-next s at r m f (a, k) = (AlongMembers.next a f, walk_more (member_steps p) g s at r m f k)

  pub members-along-more : (s : A) (at : ℕ) (r : A) {o : Option Member} {m : Member} → MemberPassed p at o → o ≡ Some m → MembersAlong s at r
      → MembersAlong (g s m) m.next r
  members-along-more s at r {m = m} h e i = members-along-next s at r m (sym (h.same i.0) ∙ e) i

  pub members-along-last : (s : A) (at : ℕ) (r : A) → member_at p at ≡ None → MembersAlong s at r → s ≡ r
  members-along-last s at r e (a, k) = walk_end (member_steps p) g s at r e k

  pub members-along-end : (s : A) (at : ℕ) (r : A) {o : Option Member} → MemberPassed p at o → o ≡ None → MembersAlong s at r → s ≡ r
  members-along-end s at r h e i = members-along-last s at r (sym (h.same i.0) ∙ e) i
