-- The tree of an object or array is that of its parts: the walk meets the members or items that reading met, one for one and in their
-- order. Reading took one level less for them, and what is read within fewer levels is read the same within more.
use mathlib.Core.Bool.{false}
use mathlib.Core.List.{List, [], ◌∷◌, map}
use mathlib.Core.Path.{◌≡◌, refl, sym, ap, subst, ◌∙◌}
use Prim.Native.Nat.{ℕ, suc, ◌+◌, ◌≤◌}
use native.Mathlib.Omega.{arith}
use lib.ListN.{length, drop}
use lib.Dec.{eqb}
use borrow.Author.Tests.{eqb-true}
use Rattle.limits.specs.Ceilings.{depth}
use Rattle.notation.proofs.Booleans.{by_test}
use Rattle.lexeme.specs.Read.{Read, made}
use Rattle.lexeme.specs.Read.Read.{done}
use Rattle.lexeme.specs.Character.{paired, within}
use Rattle.lexeme.specs.Strings
use Rattle.lexeme.specs.Numbers.{digit}
use Rattle.lexeme.specs.Tokens.{blanks}
use Rattle.lexeme.specs.inner.Start.{start}
use Rattle.lexeme.proofs.Reading.{Consumes, Settled, StrongPrefix}
use Rattle.lexeme.proofs.Steps.{bad-done, done_what, made-done, then-done, blanks_stop}
use Rattle.lexeme.proofs.StrongPrefixes.{solid-first}
use Rattle.json_text.specs.Tree
use Rattle.json_text.specs.Tree.{Json}
use Rattle.json_text.specs.Text.{expect, contents, bracketed, member, value}
use Rattle.json_text.specs.Text.After.{closed, more}
use Rattle.json_text.proofs.Steps.{contents-end, contents-none, contents-some, expect-here, expect-other, member-then, named}
use Rattle.json_text.proofs.Bound.{Follows, at_close, at-comma, follows_as, Run, faulty, last, next, broken, run}
use Rattle.json_text.proofs.StrongPrefixes.{value_consumes, value_takes, member_consumes, member_takes}
use Rattle.json_text.proofs.Relaxed.{value_goes_depth, ends_too}
use Rattle.json_text.proofs.Values.{value_none}
use Rattle.json_text.proofs.Spellings.{expect-done}
use Rattle.walk.specs.declared.Member.{Member}
use Rattle.walk.specs.declared.Item.{Item}
use Rattle.walk.specs.Walk.{offset_of, onward, member_at, members_of, item_at, items_of}
use Rattle.walk.specs.Part.{Whole, part_tree}
use Rattle.walk.proofs.Rests.{Rest, rest-drop, rest-next, rest-blanks, rest_read, rest-there}
use Rattle.walk.proofs.Steps.{onward-comma, onward-other, Reads, member_of, member_unnamed, member-found, item-none, item-found}
use Rattle.walk.proofs.Places.{member_spelt, item_spelt}
use Rattle.walk.proofs.Folds.{Steps, one_more_lem, member_steps, item_steps}
use Rattle.walk.proofs.Wholes.{whole-array, whole-object}
use Rattle.walk.proofs.Parts.{name_of, value_of, item_of, spelt_name, spelt_tree, item-tree}
use Rattle.std.specs.Prelude.{None}

-- a step at `at` finds the element that reads as x up to the rest r
pub record Meets {M A : Type 0} (p : List ℕ) (w : Steps (length p) M) (f : M → A) (at : ℕ) (x : A) (r : List ℕ) : Type 0 where
  pub what : M
  pub finds : w.Finds at what
  pub is : f what ≡ x
  pub next : w.next what ≡ onward p (blanks r)

-- what is looked at next, after an element that left the rest r of p: the closing bracket, or the element past the comma
module _ (p : List ℕ) (close : ℕ) where
  pub next-closes : (at : ℕ) (r q : List ℕ) → Rest p r → eqb close 0x2c ≡ false → Follows close r (closed q) → at ≡ onward p (blanks r)
      → blanks (drop at p) ≡ close ∷ q
  next-closes at r q s apart (at_close {b} i h) n =
      let z : b ≡ close = eqb-true b close h in
      let other : eqb b 0x2c ≡ false = ap (λ (c : ℕ). eqb c 0x2c) z ∙ apart in
      let there : drop at p ≡ b ∷ q =
      ap (λ (c : ℕ). drop c p) (n ∙ onward-other p b q i other ∙ ap (offset_of p) (sym i)) ∙ rest-there (rest-blanks r s) ∙ i in
      ap blanks there ∙ blanks_stop b q (solid-first r b q i) ∙ ap (λ (c : ℕ). c ∷ q) z

  pub next-begins : (at : ℕ) (r q : List ℕ) → Rest p r → Follows close r (more q) → at ≡ onward p (blanks r) → blanks (drop at p) ≡ q
  next-begins at r _ s (at-comma {b} {q} i h c) n =
      ap (λ (z : ℕ). blanks (drop z p)) (n ∙ onward-comma p b q i c) ∙ ap blanks (rest-there (rest-next b q i (rest-blanks r s)))

-- what an element leaves is a rest of p
pub leaves : {A : Type 0} (p : List ℕ) (element : List ℕ → Read A) → StrongPrefix Settled element
    → (at : ℕ) (x : A) (r : List ℕ) → element (blanks (drop at p)) ≡ done x r → Rest p r
leaves p element takes at x r e = rest_read element takes (blanks (drop at p)) r x e (rest-blanks (drop at p) (rest-drop at))

-- The elements of an array or of an object p, with a level at least to spare: read by `element` up to the bracket `close`, found by `steps`, and each as `of` has it.
pub record Elements (p : List ℕ) (M A : Type 0) : Type 1 where
  pub steps : Steps (length p) M
  pub of : M → A
  pub close : ℕ
  pub apart : eqb close 0x2c ≡ false
  pub element : List ℕ → Read A
  pub consumes : Consumes element
  pub takes : StrongPrefix Settled element
  pub meets : (at : ℕ) (x : A) (r : List ℕ) → element (blanks (drop at p)) ≡ done x r → Meets p steps of at x r
  pub stops : (at : ℕ) (q : List ℕ) → blanks (drop at p) ≡ close ∷ q → steps.Ends at

module _ {p : List ℕ} {M A : Type 0} (elements : Elements p M A) where
  open elements use {steps as w, of as f, close, apart, element, consumes, takes, meets, stops}

  -- at the closing bracket nothing is found
  none-closed : (k at : ℕ) (r q : List ℕ) → Rest p r → Follows close r (closed q) → at ≡ onward p (blanks r) → w.from k at ≡ []
  none-closed k at r q s h n = w.end k at (stops at q (next-closes p close at r q s apart h n))

  run_met : {l : List ℕ} {o : Read (List A)} → Run close element l o → (xs : List A) (r : List ℕ) → o ≡ done xs r
      → (k at : ℕ) → blanks (drop at p) ≡ l → length p ≤ at + k → map f (w.from k at) ≡ xs
  run_met (faulty e) xs r i k at h n = bad-done i
  run_met (broken e j) xs r i k at h n = bad-done i
  run_met (last {r = m} {q = q} {x = x} e j) xs r i k at h n =
      let g = ap element h ∙ e in
      let t = meets at x m g in
      let c = one_more_lem w k at t.what t.finds n in
      ap (map f) (c.2 ∙ ap (λ (z : List M). t.what ∷ z) (none-closed c.0 (w.next t.what) m q (leaves p element takes at x m g) (follows_as close m j) t.next))
      ∙ ap (λ (z : A). z ∷ []) t.is ∙ done_what i
  run_met (next {r = m} {q = q} {x = x} {o = o} e j u) xs r i k at h n =
      let g = ap element h ∙ e in
      let t = meets at x m g in
      let c = one_more_lem w k at t.what t.finds n in
      let y = made-done (λ ys. x ∷ ys) o xs r i in
      let b = next-begins p close (w.next t.what) m q (leaves p element takes at x m g) (follows_as close m j) t.next in
      ap (map f) c.2
      ∙ ap (λ (z : List A). f t.what ∷ z) (run_met u y.0 r y.1 c.0 (w.next t.what) b c.1)
      ∙ ap (λ (z : A). z ∷ y.0) t.is ∙ y.2

  pub bracketed_met : (at : ℕ) (xs : List A) (r : List ℕ) → bracketed close element (drop at p) ≡ done xs r → map f (w.from (length p) at) ≡ xs
  unfolding bracketed
  bracketed_met at xs r e = go (blanks (drop at p)) refl
    where
      go : (l : List ℕ) → blanks (drop at p) ≡ l → map f (w.from (length p) at) ≡ xs
      go [] h = bad-done (sym (contents-end close element) ∙ ap (contents close element) (sym h) ∙ e)
      go (b ∷ q) h =
          by_test (eqb b close)
          (λ t. ap (map f) (w.end (length p) at (stops at q (h ∙ ap (λ (z : ℕ). z ∷ q) (eqb-true b close t))))
          ∙ done_what (sym (contents-none close element b q t) ∙ ap (contents close element) (sym h) ∙ e))
          (λ t. run_met (run close element consumes (suc (length (b ∷ q))) (b ∷ q) (omega arith)) xs r
          (sym (contents-some close element b q t) ∙ ap (contents close element) (sym h) ∙ e) (length p) at h (omega arith))

-- within fewer levels, and within all
pub deepen : (d : ℕ) → d ≤ depth → (l r : List ℕ) (x : Json) → value paired d l ≡ done x r → value paired depth l ≡ done x r
deepen d h l r x e = ends_too (value_goes_depth paired h l) e

-- items
module _ (p : List ℕ) where
  pub item_meets : (d : ℕ) → d ≤ depth → (at : ℕ) (x : Json) (r : List ℕ) → value paired d (blanks (drop at p)) ≡ done x r
      → Meets p (item_steps p) (λ m. part_tree (item_of p m)) at x r
  unfolding item_at
  item_meets d h at x r e =
      let l = blanks (drop at p) in
      let g = deepen d h l r x e in
      record { what = _; finds = item-found p l g; is = item-tree (item_spelt p at g); next = refl }

  pub item_stops : (at : ℕ) (q : List ℕ) → blanks (drop at p) ≡ 0x5d ∷ q → item_at p at ≡ None
  unfolding item_at start digit within
  item_stops at q e = item-none p (blanks (drop at p)) (ap (value paired depth) e ∙ value_none depth (0x5d ∷ q) refl)

  abbrev pub items_within : (d : ℕ) → d ≤ depth → Elements p Item Json
  items_within d h =
      record {
        steps = item_steps p;
        of = λ m. part_tree (item_of p m);
        close = 0x5d;
        apart = refl;
        element = value paired d;
        consumes = value_consumes paired d;
        takes = value_takes paired d;
        meets = item_meets d h;
        stops = item_stops;
      }

  pub array_parts : {is : Tree.Items} → Whole p (Json.array is) → is ≡ Tree.as_items (map (λ m. part_tree (item_of p m)) (items_of p))
  unfolding items_of
  array_parts w =
      let o = whole-array w in
      sym (ap Tree.as_items (bracketed_met (items_within o.levels (omega (arith, o.less))) 1 o.elements [] o.reads) ∙ o.is)

-- members
module _ (p : List ℕ) where
  abbrev pub member_tree : Member → List ℕ × Json
  member_tree m = (name_of p m, part_tree (value_of p m))

  -- a member as reading has it, and as a step has it
  pub member-reads : (d : ℕ) → d ≤ depth → (l r : List ℕ) (y : List ℕ × Json) → member paired (value paired d) l ≡ done y r → (q : List ℕ) × Reads l y.0 y.1 q r
  member-reads d h l r y e =
      let a = then-done (expect 0x22 (Strings.string paired 0) l) (named (value paired d)) y r (sym (member-then paired (value paired d) l) ∙ e) in
      let q = a.1 in
      let b = expect-done 0x3a (λ z. made (λ x. (a.0, x)) (value paired d (blanks z))) (blanks q) r y a.3 in
      let c = made-done (λ x. (a.0, x)) (value paired d (blanks b.0)) y r b.2 in
      subst (λ (z : List ℕ × Json). (q : List ℕ) × Reads l z.0 z.1 q r) c.2 (
        q,
        record {
          named = a.2;
          valued = ap (expect 0x3a (λ z. value paired depth (blanks z))) b.1 ∙ expect-here 0x3a _ 0x3a b.0 refl ∙ deepen d h (blanks b.0) r c.0 c.1;
        },
      )

  pub member_meets : (d : ℕ) → d ≤ depth → (at : ℕ) (y : List ℕ × Json) (r : List ℕ) → member paired (value paired d) (blanks (drop at p)) ≡ done y r
      → Meets p (member_steps p) member_tree at y r
  unfolding member_at
  member_meets d h at y r e =
      let l = blanks (drop at p) in
      let g = member-reads d h l r y e in
      let s = member_spelt p at g.1 in
      let m = member_of p l g.0 r in
      record {
        what = m;
        finds = member-found p l g.1;
        is = ap (λ (z : List ℕ). (z, part_tree (value_of p m))) (spelt_name s) ∙ ap (λ (z : Json). (y.0, z)) (spelt_tree s);
        next = refl;
      }

  pub member_stops : (at : ℕ) (q : List ℕ) → blanks (drop at p) ≡ 0x7d ∷ q → member_at p at ≡ None
  unfolding member_at
  member_stops at q e = member_unnamed p (blanks (drop at p)) (ap (expect 0x22 (Strings.string paired 0)) e ∙ expect-other 0x22 _ 0x7d q refl)

  abbrev pub members_within : (d : ℕ) → d ≤ depth → Elements p Member (List ℕ × Json)
  members_within d h =
      record {
        steps = member_steps p;
        of = member_tree;
        close = 0x7d;
        apart = refl;
        element = member paired (value paired d);
        consumes = member_consumes paired (value paired d) (value_consumes paired d);
        takes = member_takes paired (value paired d) (value_consumes paired d) (value_takes paired d);
        meets = member_meets d h;
        stops = member_stops;
      }

  pub object-parts : {ms : Tree.Members} → Whole p (Json.object ms) → ms ≡ Tree.as_members (map member_tree (members_of p))
  unfolding members_of
  object-parts w =
      let o = whole-object w in
      sym (ap Tree.as_members (bracketed_met (members_within o.levels (omega (arith, o.less))) 1 o.elements [] o.reads) ∙ o.is)
