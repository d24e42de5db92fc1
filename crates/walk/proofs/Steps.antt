-- One step of a walk: the ways through it, one equation each, and back from what it found to what was read.
use mathlib.Core.Bool.{true, false}
use mathlib.Core.List.{List, [], ◌∷◌}
use mathlib.Core.Path.{◌≡◌, refl}
use Prim.Native.Nat.{ℕ, ◌+◌, ◌-◌}
use native.Mathlib.Omega.{arith}
use lib.ListN.{length, drop}
use lib.Dec.{eqb}
use Rattle.limits.specs.Ceilings.{depth}
use Rattle.lexeme.specs.Read.{Read}
use Rattle.lexeme.specs.Read.Read.{done, bad}
use Rattle.lexeme.specs.Character.{paired}
use Rattle.lexeme.specs.Strings
use Rattle.lexeme.specs.Tokens.{blanks}
use Rattle.json_text.specs.Tree.{Json}
use Rattle.json_text.specs.Text.{expect, value}
use Rattle.walk.specs.declared.Member.{Member}
use Rattle.walk.specs.declared.Item.{Item}
use Rattle.walk.specs.Walk.{offset_of, onward, member_in, item_in}
use Rattle.std.specs.Prelude.{Option, Some, None}

-- where the next element is looked for
module _ (p : List ℕ) {l : List ℕ} where
  pub onward-end : l ≡ [] → onward p l ≡ length p
  unfolding onward
  onward-end e = rw e

  module _ (b : ℕ) (r : List ℕ) (e : l ≡ b ∷ r) where
    pub onward-comma : eqb b 0x2c ≡ true → onward p l ≡ offset_of p r
    unfolding onward
    onward-comma h = rw (e, onward, h)

    pub onward-other : eqb b 0x2c ≡ false → onward p l ≡ offset_of p (b ∷ r)
    unfolding onward
    onward-other h = rw (e, onward, h)

-- a member read off the front of l: its name, up to the rest q, and its value x, up to the rest t
pub record Reads (l name : List ℕ) (x : Json) (q t : List ℕ) : Type 0 where
  pub named : expect 0x22 (Strings.string paired 0) l ≡ done name q
  pub valued : expect 0x3a (λ r. value paired depth (blanks r)) (blanks q) ≡ done x t

-- its places, and those of an item
abbrev pub member_of : List ℕ → List ℕ → List ℕ → List ℕ → Member
member_of p l q t =
    record {
      name = offset_of p l + 1;
      name_end = offset_of p q - 1;
      value = offset_of p (blanks (drop 1 (blanks q)));
      value_end = offset_of p t;
      next = onward p (blanks t);
    }

abbrev pub item_of : List ℕ → List ℕ → List ℕ → Item
item_of p l t = record { value = offset_of p l; value_end = offset_of p t; next = onward p (blanks t) }

module _ (p l : List ℕ) where
  pub member_unnamed : {k : ℕ} {r : List ℕ} → expect 0x22 (Strings.string paired 0) l ≡ bad k r → member_in p l ≡ None
  unfolding member_in
  member_unnamed e = rw (member_in, e)

  pub member_unvalued : {name q r : List ℕ} {k : ℕ} → expect 0x22 (Strings.string paired 0) l ≡ done name q
      → expect 0x3a (λ r. value paired depth (blanks r)) (blanks q) ≡ bad k r → member_in p l ≡ None
  unfolding member_in
  member_unvalued e h = rw (member_in, e, h)

  pub member-found : {name q t : List ℕ} {x : Json} → Reads l name x q t → member_in p l ≡ Some (member_of p l q t)
  unfolding member_in
  member-found r = rw (member_in, r.named, r.valued)

  pub item-none : {k : ℕ} {r : List ℕ} → value paired depth l ≡ bad k r → item_in p l ≡ None
  unfolding item_in
  item-none e = rw (item_in, e)

  pub item-found : {x : Json} {t : List ℕ} → value paired depth l ≡ done x t → item_in p l ≡ Some (item_of p l t)
  unfolding item_in
  item-found e = rw (item_in, e)

-- what a step found was read
pub record MemberFrom (p l : List ℕ) (m : Member) : Type 0 where
  pub name : List ℕ
  pub tree : Json
  pub after_name : List ℕ
  pub after_value : List ℕ
  pub reads : Reads l name tree after_name after_value
  pub is : m ≡ member_of p l after_name after_value

pub record ItemFrom (p l : List ℕ) (m : Item) : Type 0 where
  pub tree : Json
  pub after_value : List ℕ
  pub reads : value paired depth l ≡ done tree after_value
  pub is : m ≡ item_of p l after_value

no_member : {A : Type 0} {o : Option Member} {m : Member} → o ≡ Some m → o ≡ None → A
no_member e h = let n : ◌≡◌ {A = ℕ} 0 1 = cc in absurd (omega arith)

no_item : {A : Type 0} {o : Option Item} {m : Item} → o ≡ Some m → o ≡ None → A
no_item e h = let n : ◌≡◌ {A = ℕ} 0 1 = cc in absurd (omega arith)

same-member : {o : Option Member} {m n : Member} → o ≡ Some m → o ≡ Some n → m ≡ n
same-member e h = cc

same_item : {o : Option Item} {m n : Item} → o ≡ Some m → o ≡ Some n → m ≡ n
same_item e h = cc

pub member-from : (p l : List ℕ) (m : Member) → member_in p l ≡ Some m → MemberFrom p l m
member-from p l m e = first (expect 0x22 (Strings.string paired 0) l) refl
  where
    second : (name q : List ℕ) → expect 0x22 (Strings.string paired 0) l ≡ done name q
        → (o : Read Json) → expect 0x3a (λ r. value paired depth (blanks r)) (blanks q) ≡ o → MemberFrom p l m
    second name q h (bad k r) i = no_member e (member_unvalued p l h i)
    second name q h (done x t) i =
        let r : Reads l name x q t = record { named = h; valued = i } in
        record { name = name; tree = x; after_name = q; after_value = t; reads = r; is = same-member e (member-found p l r) }

    first : (o : Read (List ℕ)) → expect 0x22 (Strings.string paired 0) l ≡ o → MemberFrom p l m
    first (bad k r) h = no_member e (member_unnamed p l h)
    first (done name q) h = second name q h (expect 0x3a (λ r. value paired depth (blanks r)) (blanks q)) refl

pub item_from : (p l : List ℕ) (m : Item) → item_in p l ≡ Some m → ItemFrom p l m
item_from p l m e = go (value paired depth l) refl
  where
    go : (o : Read Json) → value paired depth l ≡ o → ItemFrom p l m
    go (bad k r) h = no_item e (item-none p l h)
    go (done x t) h = record { tree = x; after_value = t; reads = h; is = same_item e (item-found p l h) }
