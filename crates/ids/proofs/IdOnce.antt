-- A walk over a record's members up to the first with the name of its id. A record that is noted has its id once or not at all, so this member holds the
-- id, and a record without such a member has none.
use mathlib.Core.Bool.{Bool, true, false}
use mathlib.Core.List.{List, [], ◌∷◌, foldl}
use mathlib.Core.Logic.{◌⊎◌, inl, inr, ⊎_elim}
use mathlib.Core.Path.{◌≡◌, refl, sym, ap, subst, ◌∙◌}
use Prim.Native.Nat.{ℕ, zero, suc, ◌<◌}
use native.Mathlib.Omega.{arith}
use lib.Dec.{eqb}
use lib.ListN.{length}
use borrow.Author.Tests.{eqb-true}
use Rattle.notation.specs.Choice.{◌⇒◌else◌}
use Rattle.notation.proofs.Booleans.{by_test}
use Rattle.lexeme.specs.Character.{within}
use Rattle.lexeme.specs.Numbers.{digit}
use Rattle.lexeme.specs.Tokens.{blanks}
use Rattle.lexeme.specs.inner.Start.{start}
use Rattle.text.specs.Text.{text_of, same}
use Rattle.json_text.specs.Tree.{Json, Members}
use Rattle.json_text.specs.Text.{expect}
use Rattle.walk.specs.declared.Member.{Member}
use Rattle.walk.specs.Walk.{part, member_in, member_at, members_from, members_of}
use Rattle.walk.specs.Part.{Whole, inside}
use Rattle.walk.specs.inner.Kind.{kind_at}
use Rattle.walk.specs.inner.Along.{AlongMembers, MemberPassed}
use Rattle.walk.proofs.Folds.{Walk, member_steps, members-start, walk_more, walk_end}
use Rattle.walk.proofs.Parts.{member-whole}
use Rattle.slots.specs.declared.Found.{Found}
use Rattle.slots.specs.declared.Found.TheVariants.{Missing, Once, Twice}
use Rattle.slots.specs.Found.{noted, found_in}
use Rattle.document.specs.inner.Values.{kind_code, found_bytes, FoundWhole, member_of, text_by}
use Rattle.document.proofs.ByKind.{member-found}
use Rattle.ids.specs.inner.Ids.{id_name, id_value, id_of, NoIdBefore}
use Rattle.std.specs.Prelude.{Option, Some, None}

-- no bytes have no id
pub no_text : text_by [] ≡ None
unfolding text_by kind_at start digit within
no_text = refl

nothing-found : (name : List ℕ) → found_in [] name ≡ Missing
unfolding found_in members_of members_from
nothing-found name = refl

-- where nothing is found, or twice
none_found : (sheet : ℕ) (q : List ℕ) (o : Found) → o ≡ found_in q (id_name sheet) → found_bytes q o ≡ [] → id_of sheet q ≡ None
unfolding id_value member_of
none_found sheet q o e z =
    ap text_by
    (by_test (eqb (kind_code (kind_at q)) 5) (λ t. rw (id_value, member_of, t, ← e) z) (λ t. rw (id_value, member_of, t)))
    ∙ no_text

-- a record with an id is an object in which its name stands once
module _ (sheet : ℕ) (q id : List ℕ) (e : id_of sheet q ≡ Some id) where
  pub id_single : found_in q (id_name sheet) ≡ Twice → ⊥
  id_single t = let n = none_found sheet q Twice (sym t) refl in let z : ◌≡◌ {A = ℕ} 0 1 = cc in omega arith

  pub id_object : 5 ≡ kind_code (kind_at q)
  unfolding id_value member_of
  id_object =
      by_test (eqb (kind_code (kind_at q)) 5)
      (λ t. sym (eqb-true (kind_code (kind_at q)) 5 t))
      (λ t.
      let n : None ≡ Some id = sym no_text ∙ (rw (id_value, member_of, t) at e) in let z : ◌≡◌ {A = ℕ} 0 1 = cc in absurd (omega arith))

pub id_some : (sheet : ℕ) (q id : List ℕ) → id_of sheet q ≡ Some id → 0 < length q
id_some sheet [] id e = let n = none_found sheet [] Missing (sym (nothing-found (id_name sheet))) refl in let z : ◌≡◌ {A = ℕ} 0 1 = cc in absurd (omega arith)
id_some sheet (b ∷ q) id e = omega arith

-- a step that passes over values, along such a record or in nothing
nothing-at : (at : ℕ) → member_at [] at ≡ None
unfolding member_at member_in expect blanks
nothing-at zero = refl
nothing-at (suc n) = refl

pub passed_end : (q : List ℕ) (at : ℕ) {o : Option Member} → MemberPassed q at o → o ≡ None → (0 < length q → AlongMembers q at) → member_at q at ≡ None
passed_end [] at h e a = nothing-at at
passed_end (b ∷ q) at h e a = sym (h.same (a (omega arith))) ∙ e

pub passed_found : (q : List ℕ) (at : ℕ) {o : Option Member} {m : Member} → MemberPassed q at o → o ≡ Some m → (0 < length q → AlongMembers q at)
    → member_at q at ≡ Some m
passed_found q at {m = m} h e a = let k = h.placed m e in sym (h.same (a (omega arith))) ∙ e

-- from the first member of the name on
module _ (q name : List ℕ) where
  twice_stays : (ms : List Member) → foldl (noted q name) Twice ms ≡ Twice
  twice_stays [] = refl
  twice_stays (m ∷ ms) =
      let ih = twice_stays ms in
      by_test (same (text_of (part q m.name m.name_end)) name) (λ t. rw t ih) (λ t. rw t ih)

  once_or_twice : (a e : ℕ) (ms : List Member) → (foldl (noted q name) (Once a e) ms ≡ Once a e) ⊎ (foldl (noted q name) (Once a e) ms ≡ Twice)
  once_or_twice a e [] = inl refl
  once_or_twice a e (m ∷ ms) =
      let ih = once_or_twice a e ms in
      by_test (same (text_of (part q m.name m.name_end)) name) (λ t. inr (rw t (twice_stays ms))) (λ t. rw t ih)

  first_found : (a e at : ℕ) → Walk (member_steps q) (noted q name) (Once a e) at (found_in q name) → (found_in q name ≡ Twice → ⊥) → Once a e ≡ found_in q name
  first_found a e at (k, h, is) single =
      ⊎_elim (λ o. sym o ∙ is) (λ t. absurd (single (sym is ∙ t))) (once_or_twice a e (members_from k q at))

-- Where no member of the name is met.

pub unmet_start : (sheet : ℕ) {q : List ℕ} {ms : Members} → Whole q (Json.object ms) → NoIdBefore sheet q 1
unfolding found_in
unmet_start sheet w = record { left = members-start _ _ Missing; along = λ h. AlongMembers.start w }

pub unmet_at : {sheet : ℕ} {q r : List ℕ} {a b : ℕ} → q ≡ r → a ≡ b → NoIdBefore sheet r b → NoIdBefore sheet q a
unmet_at {sheet} {r = r} {a = a} e i u = subst (λ (l : List ℕ). NoIdBefore sheet l a) (sym e) (subst (NoIdBefore sheet r) (sym i) u)

module _ {sheet : ℕ} {q : List ℕ} {at : ℕ} (u : NoIdBefore sheet q at) where
  -- at the end none has it
  unmet_end : member_at q at ≡ None → Missing ≡ found_in q (id_name sheet)
  unmet_end e = walk_end (member_steps q) (noted q (id_name sheet)) Missing at (found_in q (id_name sheet)) e u.left

  -- the member there, x its name
  module _ (m : Member) (f : member_at q at ≡ Some m) (x : List ℕ) (is : x ≡ part q m.name m.name_end) where
    onward : {t : Bool} → same (text_of x) (id_name sheet) ≡ t
        → Walk (member_steps q) (noted q (id_name sheet)) (t ⇒ Once m.value m.value_end else Missing) m.next (found_in q (id_name sheet))
    onward e =
        subst (λ (t : Bool). Walk (member_steps q) (noted q (id_name sheet)) (t ⇒ Once m.value m.value_end else Missing) m.next (found_in q (id_name sheet)))
        (ap (λ (y : List ℕ). same (text_of y) (id_name sheet)) (sym is) ∙ e) (walk_more (member_steps q) (noted q (id_name sheet)) Missing at (found_in q (id_name sheet)) m f u.left)

    pub unmet_next : same (text_of x) (id_name sheet) ≡ false → NoIdBefore sheet q m.next
    unmet_next e = record { left = onward e; along = λ h. AlongMembers.next (u.along h) f }

    -- v is what it holds
    pub value-here : same (text_of x) (id_name sheet) ≡ true → 5 ≡ kind_code (kind_at q) → (found_in q (id_name sheet) ≡ Twice → ⊥) → {v : List ℕ}
        → (FoundWhole q (Once m.value m.value_end) → v ≡ found_bytes q (Once m.value m.value_end)) → v ≡ id_value sheet q
    unfolding id_value
    value-here e object single holds =
        holds (member-whole q at m f)
        ∙ member-found q (id_name sheet) 5 object refl (Once m.value m.value_end) (first_found q (id_name sheet) m.value m.value_end m.next (onward e) single)

-- where no member has the name, the record has no id
pub end_none : {sheet : ℕ} {q : List ℕ} {at : ℕ} → NoIdBefore sheet q at → member_at q at ≡ None → id_of sheet q ≡ None
end_none {sheet} {q} u e = none_found sheet q Missing (unmet_end u e) refl

-- the text that a value stands for, which is a string
module _ (v t : List ℕ) (e : text_by v ≡ Some t) where
  pub text-kind : 3 ≡ kind_code (kind_at v)
  unfolding text_by
  text-kind =
      by_test (eqb (kind_code (kind_at v)) 3) (λ h. sym (eqb-true (kind_code (kind_at v)) 3 h)) λ h.
      let k : None ≡ Some t = (rw (text_by, h) at e) in let z : ◌≡◌ {A = ℕ} 0 1 = cc in absurd (omega arith)

  pub text-inside : text_of (inside v) ≡ t
  unfolding text_by
  text-inside =
      by_test (eqb (kind_code (kind_at v)) 3)
      (λ h. let k : Some (text_of (inside v)) ≡ Some t = (rw (text_by, h) at e) in cc)
      (λ h. let k : None ≡ Some t = (rw (text_by, h) at e) in let z : ◌≡◌ {A = ℕ} 0 1 = cc in absurd (omega arith))
