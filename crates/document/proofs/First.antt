-- The first member of a name, in an object with whatever follows it: where the object has the name once, the first is the one, for another after it
-- would make it twice. Along the object's own bytes the walk takes the same steps.
use mathlib.Core.Bool.{Bool, true, false}
use mathlib.Core.List.{List, [], foldl}
use mathlib.Core.Path.{◌≡◌, refl, sym, ap, subst, ◌∙◌}
use Prim.Native.Nat.{ℕ, ◌≤◌}
use native.Mathlib.Omega.{arith}
use lib.ListN.{length, take, drop, length-take, length-drop}
use lib.Seq.{get_or-take}
use Rattle.notation.specs.Choice.{◌⇒◌else◌}
use Rattle.lexeme.specs.Character.{byte}
use Rattle.json_text.specs.Tree.{Json}
use Rattle.text.specs.Text.{text_of, same}
use Rattle.walk.specs.declared.Member.{Member}
use Rattle.walk.specs.declared.Named.{Named}
use Rattle.walk.specs.Walk.{part, member_at, members_from}
use Rattle.walk.specs.Part.{Whole}
use Rattle.walk.specs.inner.Along.{AlongMembers, MemberPassed, NamePassed}
use Rattle.walk.proofs.Places.{member-placed}
use Rattle.walk.proofs.Folds.{Walk, member_steps, members-start, walk_more, walk_end}
use Rattle.walk.proofs.Wholes.{whole-some}
use Rattle.walk.proofs.Memberless.{first-object, no-members}
use Rattle.walk.proofs.Passing.{front-found}
use Rattle.walk.proofs.Open.{front-member, front-along, front-part}
use Rattle.slots.specs.declared.Found.{Found}
use Rattle.slots.specs.declared.Found.TheVariants.{Missing, Once, Twice}
use Rattle.slots.specs.Found.{one_more, noted, found_in}
use Rattle.slots.proofs.Finds.{fold_keeps}
use Rattle.document.specs.inner.Spans.{ValueFrom}
use Rattle.std.specs.Prelude.{Some, None}

-- of a value that is no object nothing is found
pub found_none : (p name : List ℕ) {x : Json} → Whole p x → (byte p 0 ≡ 0x7b → ⊥) → Missing ≡ found_in p name
unfolding found_in
found_none p name w h = sym (ap (foldl (noted p name) Missing) (no-members w h))

-- a value that was found once is kept, or there are two
abbrev StaysFound : ℕ → Found → Type 0
StaysFound a Missing = ⊥
StaysFound a (Once b e) = a ≡ b
StaysFound a Twice = Unit {0}

keeps : (a : ℕ) (t : Bool) (from upto : ℕ) (o : Found) → StaysFound a o → StaysFound a (t ⇒ one_more o from upto else o)
keeps a false from upto o h = h
keeps a true from upto Missing h = absurd h
keeps a true from upto (Once b e) h = tt
keeps a true from upto Twice h = tt

once-kept : (q name : List ℕ) (ms : List Member) (a b c d : ℕ) → foldl (noted q name) (Once a b) ms ≡ Once c d → a ≡ c
once-kept q name ms a b c d e =
    subst (StaysFound a) e
    (fold_keeps (StaysFound a) (noted q name) ms
    (λ o m i. keeps a (same (text_of (part q m.name m.name_end)) name) m.value m.value_end o) (Once a b) refl)

-- the object that the first n bytes of p are has the name once
pub record Holds (p name : List ℕ) (n from upto : ℕ) : Type 0 where
  pub tree : Json
  pub whole : Whole (take n p) tree
  pub found : found_in (take n p) name ≡ Once from upto

-- none of that name stands before `at`
pub record Ahead (p name : List ℕ) (n from upto at : ℕ) : Type 0 where
  pub along : AlongMembers (take n p) at
  pub left : Walk (member_steps (take n p)) (noted (take n p) name) Missing at (Once from upto)

abbrev pub NotFoundBefore : (p name : List ℕ) → ℕ → Type 0
NotFoundBefore p name at = (n from upto : ℕ) → Holds p name n from upto → Ahead p name n from upto at

missing-once : {from upto : ℕ} → Missing ≡ Once from upto → ⊥
missing-once e = let z : ◌≡◌ {A = ℕ} 0 1 = cc in omega arith

module _ (p name : List ℕ) where
  first-same : {x : Json} (n : ℕ) → Whole (take n p) x → byte (take n p) 0 ≡ byte p 0
  first-same n w = get_or-take n p 0 0 (omega (arith, whole-some w, length-take n p))

  pub unmet_none : (byte p 0 ≡ 0x7b → ⊥) → (n from upto : ℕ) → Holds p name n from upto → ⊥
  unmet_none h n from upto k = missing-once (found_none (take n p) name k.whole (λ e. h (sym (first-same n k.whole) ∙ e)) ∙ k.found)

  pub unmet_start : byte p 0 ≡ 0x7b → NotFoundBefore p name 1
  unfolding found_in
  unmet_start h n from upto k =
      let q = take n p in
      let (ms, e) = first-object k.whole (first-same n k.whole ∙ h) in
      record {
        along = AlongMembers.start (subst (Whole q) e k.whole);
        left = subst (Walk (member_steps q) (noted q name) Missing 1) k.found (members-start q (noted q name) Missing);
      }

  module _ (at : ℕ) (u : NotFoundBefore p name at) where
    pub unmet_end : MemberPassed p at None → (n from upto : ℕ) → Holds p name n from upto → ⊥
    unmet_end f n from upto k =
        let q = take n p in
        let a = u n from upto k in
        missing-once (walk_end (member_steps q) (noted q name) Missing at (Once from upto)
        (sym (front-member p n a.along) ∙ sym (f.same (front-along p n a.along))) a.left)

    module _ (o : Named) (f : NamePassed p at (Some o)) where
      -- the member of that front in the object's own bytes, and its name
      met : (n from upto : ℕ) → Holds p name n from upto
          → (m : Member) × (member_at (take n p) at ≡ Some m) × (o ≡ record { name = m.name; name_end = m.name_end; value = m.value })
          × (part p o.name o.name_end ≡ part (take n p) m.name m.name_end)
      met n from upto k =
          let a = u n from upto k in
          let (m, i, j) = front-found (member_at p at) o (f.same (front-along p n a.along)) in
          let g : member_at (take n p) at ≡ Some m = sym (front-member p n a.along) ∙ i in
          let d = member-placed (take n p) at m g in
          let b : m.name_end ≤ length (take n p) = omega arith in
          (m, g, j, ap (λ (z : Named). part p z.name z.name_end) j ∙ front-part p n m.name m.name_end d.name b)

      more : (n from upto : ℕ) (k : Holds p name n from upto) → let q = take n p in let (m, g, j, e) = met n from upto k in
          Walk (member_steps q) (noted q name) (same (text_of (part p o.name o.name_end)) name ⇒ Once m.value m.value_end else Missing) m.next (Once from upto)
      more n from upto k =
          let q = take n p in
          let (m, g, j, e) = met n from upto k in
          rw e (walk_more (member_steps q) (noted q name) Missing at (Once from upto) m g (u n from upto k).left)

      pub unmet_here : same (text_of (part p o.name o.name_end)) name ≡ true → (n from upto : ℕ) → Holds p name n from upto → drop o.value p ≡ drop from p
      unmet_here t n from upto k =
          let (m, g, j, e) = met n from upto k in
          let w = rw t at (more n from upto k) in
          ap (λ (z : Named). drop z.value p) j ∙ ap (λ (i : ℕ). drop i p) (once-kept (take n p) name (members_from w.0 (take n p) m.next) m.value m.value_end from upto w.2)

      pub unmet_next : same (text_of (part p o.name o.name_end)) name ≡ false → (m : Member) → MemberPassed p at (Some m) → NotFoundBefore p name m.next
      unmet_next t m h n from upto k =
          let q = take n p in
          let a = u n from upto k in
          let (l, g, j, e) = met n from upto k in
          let i : Some m ≡ Some l = h.same (front-along p n a.along) ∙ front-member p n a.along ∙ g in
          let c : l ≡ m = cc in
          let w = rw t at (more n from upto k) in
          subst (λ (z : Member). Ahead p name n from upto z.next) c (record { along = AlongMembers.next a.along g; left = w })

-- the rest from it on, or none
module _ (p name r : List ℕ) where
  abbrev Starts : Type 0
  Starts = (n from upto : ℕ) → Holds p name n from upto → r ≡ drop from p

  value-from : length r ≤ length p → Starts → ValueFrom p name r
  value-from h k = record { inside = h; starts = λ n x w from upto f. k n from upto (record { tree = x; whole = w; found = f }) }

  pub from-none : r ≡ [] → ((n from upto : ℕ) → Holds p name n from upto → ⊥) → ValueFrom p name r
  from-none e k = value-from (omega (arith, ap length e)) (λ n from upto h. absurd (k n from upto h))

  pub from-here : (at : ℕ) → r ≡ drop at p → ((n from upto : ℕ) → Holds p name n from upto → drop at p ≡ drop from p) → ValueFrom p name r
  from-here at e k = value-from (omega (arith, ap length e, length-drop at p)) (λ n from upto h. e ∙ k n from upto h)
