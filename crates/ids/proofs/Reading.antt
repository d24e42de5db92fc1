-- A record that is read in bytes which begin with it: whatever follows it, its members are the same, and so is the text of its id. Of a record without an
-- id nothing is there.
use mathlib.Core.Bool.{Bool, true, false}
use mathlib.Core.List.{List, []}
use mathlib.Core.Path.{◌≡◌, refl, sym, ap, subst, ◌∙◌}
use Prim.Native.Nat.{ℕ, ◌-◌, ◌≤◌}
use native.Mathlib.Omega.{arith}
use lib.ListN.{length, take, drop, take-append-drop, drop_of_length-le}
use lib.Seq.{take_at}
use Rattle.notation.specs.Choice.{◌⇒◌else◌}
use Rattle.notation.proofs.Booleans.{by_test}
use Rattle.text.specs.Text.{text_of, same}
use Rattle.walk.specs.declared.Member.{Member}
use Rattle.walk.specs.Walk.{part, member_at}
use Rattle.walk.specs.Part.{part_tree, inside}
use Rattle.walk.specs.inner.Along.{AlongMembers, MemberPassed}
use Rattle.walk.proofs.Open.{front-member, front-along, front-part}
use Rattle.walk.proofs.Places.{member-placed}
use Rattle.walk.proofs.Parts.{item_of}
use Rattle.slots.specs.declared.Found.TheVariants.{Once}
use Rattle.slots.specs.inner.Blank.{blank_text}
use Rattle.document.specs.inner.Values.{found_bytes, text_by}
use Rattle.ids.specs.inner.Ids.{id_name, id_of, text_or, id_text, NoIdBefore}
use Rattle.ids.specs.inner.Notes.{Entry}
use Rattle.ids.proofs.IdOnce.{id_single, id_object, id_some, end_none, text-inside, value-here, unmet_next}
use Rattle.ids.proofs.Texts.{no-some}
use Rattle.std.specs.Prelude.{Option, Some, None}

-- an object q at the front of r
module _ (q r : List ℕ) (is : take (length q) r ≡ q) where
  along_open : {at : ℕ} → AlongMembers q at → AlongMembers (take (length q) r) at
  along_open {at} = subst (λ (l : List ℕ). AlongMembers l at) (sym is)

  along_in : {at : ℕ} → AlongMembers q at → AlongMembers r at
  along_in a = front-along r (length q) (along_open a)

  member_in : {at : ℕ} → AlongMembers q at → member_at r at ≡ member_at q at
  member_in {at} a = front-member r (length q) (along_open a) ∙ ap (λ (l : List ℕ). member_at l at) is

  part_in : (from upto : ℕ) → from ≤ upto → upto ≤ length q → part r from upto ≡ part q from upto
  part_in from upto h i =
      front-part r (length q) from upto h (subst (λ (k : ℕ). upto ≤ k) (ap length (sym is)) i) ∙ ap (λ (l : List ℕ). part l from upto) is

-- the name of a member
name_in : (q r : List ℕ) → take (length q) r ≡ q → (at : ℕ) (m : Member) → member_at q at ≡ Some m → {x : List ℕ} → x ≡ part r m.name m.name_end
    → x ≡ part q m.name m.name_end
name_in q r is at m g named = let k = member-placed q at m g in named ∙ part_in q r is m.name m.name_end k.name (omega arith)

-- a text that is found is that between its quotation marks
found-text : (q : List ℕ) (a e : ℕ) (id : List ℕ) → text_by (found_bytes q (Once a e)) ≡ Some id → text_of (inside (part q a e)) ≡ id
found-text q a e id h =
    by_test (blank_text (part_tree (part q a e)))
    (λ t. no-some (ap (λ (b : Bool). text_by (b ⇒ [] else part q a e)) (sym t) ∙ h))
    λ t. text-inside (part q a e) id (ap (λ (b : Bool). text_by (b ⇒ [] else part q a e)) (sym t) ∙ h)

-- a walk over the members of the record q in the bytes r has come to `at`, and none that it passed has the name of the file's ids
pub data Reading (sheet : ℕ) (q r : List ℕ) (at : ℕ) : Type 0 where
  nothing : id_of sheet q ≡ None → r ≡ [] → Reading sheet q r at
  reading : {id : List ℕ} → id_of sheet q ≡ Some id → take (length q) r ≡ q → NoIdBefore sheet q at → Reading sheet q r at

front-again : (k : ℕ) (l : List ℕ) → take (length (take k l)) l ≡ take k l
front-again k l = ap (take (length (take k l))) (sym (take-append-drop k l)) ∙ take_at (take k l) (drop k l) (length (take k l)) refl

pub reading-start : {sheet : ℕ} {p q r : List ℕ} {start member at : ℕ} → Entry sheet p q start member → r ≡ drop start p → at ≡ member → Reading sheet q r at
reading-start {p = p} (Entry.without e h) i j = Reading.nothing e (i ∙ drop_of_length-le p h)
reading-start {sheet} {p} {q} {r} (Entry.within e m among is s u) i j =
    Reading.reading e
    (ap (λ (l : List ℕ). take (length l) r) (sym is) ∙ ap (take (length (item_of p m))) (i ∙ ap (λ (k : ℕ). drop k p) (sym s))
    ∙ front-again (m.value_end - m.value) (drop m.value p) ∙ is)
    (subst (NoIdBefore sheet q) (sym j) u)

module _ {sheet : ℕ} {q r : List ℕ} {at : ℕ} {o : Option Member} (h : MemberPassed r at o) where
  -- the step in r is that in q
  along_id : {id : List ℕ} → id_of sheet q ≡ Some id → NoIdBefore sheet q at → AlongMembers q at
  along_id {id} e u = u.along (id_some sheet q id e)

  step_is : {id : List ℕ} → id_of sheet q ≡ Some id → take (length q) r ≡ q → NoIdBefore sheet q at → member_at q at ≡ o
  step_is e is u = let a = along_id e u in sym (h.same (along_in q r is a) ∙ member_in q r is a)

  pub reading-end : Reading sheet q r at → o ≡ None → id_text sheet q ≡ []
  unfolding id_text
  reading-end (Reading.nothing e z) f = ap text_or e
  reading-end (Reading.reading e is u) f = ap text_or (end_none u (step_is e is u ∙ f))

  -- the member that is found, x its name
  module _ (m : Member) (f : o ≡ Some m) (x : List ℕ) (named : x ≡ part r m.name m.name_end) where
    pub reading-more : same (text_of x) (id_name sheet) ≡ false → Reading sheet q r at → Reading sheet q r m.next
    reading-more t (Reading.nothing e z) = Reading.nothing e z
    reading-more t (Reading.reading e is u) = let g = step_is e is u ∙ f in Reading.reading e is (unmet_next u m g x (name_in q r is at m g named) t)

    pub reading-text : same (text_of x) (id_name sheet) ≡ true → Reading sheet q r at → text_of (inside (part r m.value m.value_end)) ≡ id_text sheet q
    unfolding id_text
    reading-text t (Reading.nothing e z) = let k = h.placed m f in absurd (omega (arith, k.later, k.name, k.apart, k.value, k.next, k.inside, ap length z))
    reading-text t (Reading.reading {id} e is u) =
        let g = step_is e is u ∙ f in let k = member-placed q at m g in
        let holds = value-here u m g x (name_in q r is at m g named) t (id_object sheet q id e) (id_single sheet q id e) {v = found_bytes q (Once m.value m.value_end)} (λ w. refl) in
        ap (λ (l : List ℕ). text_of (inside l)) (part_in q r is m.value m.value_end (omega arith) (omega arith))
        ∙ found-text q m.value m.value_end id (ap text_by holds ∙ e)
        ∙ sym (ap text_or e)
