-- What an object's bytes hold under a name is what picking finds there in the object's tree: the walk meets the members that the tree has, in
-- their order, and one pass from the front counts as picking does from the back. A value so found is whole.
use mathlib.Core.Bool.{Bool, true, false}
use mathlib.Core.List.{List, [], ◌∷◌, foldl, map, Memᴰ}
use mathlib.Core.Path.{◌≡◌, refl, sym, ap, subst, ◌∙◌}
use Prim.Native.Nat.{ℕ, ◌≤◌, ◌<◌}
use native.Mathlib.Omega.{arith}
use lib.ListN.{length}
use Rattle.notation.specs.Choice.{◌⇒◌else◌}
use Rattle.json_text.specs.Tree
use Rattle.json_text.specs.Tree.{Json}
use Rattle.text.specs.Text.{same}
use Rattle.text.proofs.Laws.{same-sym}
use Rattle.walk.specs.declared.Member.{Member}
use Rattle.walk.specs.Walk.{part, members_of}
use Rattle.walk.specs.Part.{Whole, part_tree}
use Rattle.walk.proofs.Places.{member-placed}
use Rattle.walk.proofs.Folds.{each, member_steps}
use Rattle.walk.proofs.Parts.{name_of, value_of, member-whole}
use Rattle.walk.proofs.Trees.{member_tree, object-parts}
use Rattle.schema.specs.Pick.{Slot, missing, once, twice, again, find}
use Rattle.slots.specs.declared.Found.{Found}
use Rattle.slots.specs.declared.Found.TheVariants.{Missing, Once, Twice}
use Rattle.slots.specs.Found.{one_more, noted, found_in}
use Rattle.slots.specs.inner.Found.{tree_in}

-- what was found first, with what is found after it
joined : Slot Json → Slot Json → Slot Json
joined missing s = s
joined (once x) missing = once x
joined (once x) (once y) = twice
joined (once x) twice = twice
joined twice s = twice

joined-missing : (s : Slot Json) → joined s missing ≡ s
unfolding joined
joined-missing missing = refl
joined-missing (once x) = refl
joined-missing twice = refl

module _ (p : List ℕ) where
  -- a member more, at the end of the first or in front of the second
  joined-member : (t : Bool) (a e : ℕ) (o : Found) (s : Slot Json)
      → joined (tree_in p (t ⇒ one_more o a e else o)) s ≡ joined (tree_in p o) (t ⇒ again (part_tree (part p a e)) s else s)
  unfolding joined
  joined-member false a e o s = refl
  joined-member true a e Missing missing = refl
  joined-member true a e Missing (once y) = refl
  joined-member true a e Missing twice = refl
  joined-member true a e (Once b f) missing = refl
  joined-member true a e (Once b f) (once y) = refl
  joined-member true a e (Once b f) twice = refl
  joined-member true a e Twice s = refl

  module _ (name : List ℕ) where
    fold_found : (ms : List Member) (o : Found)
        → tree_in p (foldl (noted p name) o ms) ≡ joined (tree_in p o) (find name (Tree.as_members (map (member_tree p) ms)))
    unfolding find Tree.as_members
    fold_found [] o = sym (joined-missing (tree_in p o))
    fold_found (m ∷ ms) o =
        fold_found ms (noted p name o m)
        ∙ joined-member (same (name_of p m) name) m.value m.value_end o (find name (Tree.as_members (map (member_tree p) ms)))
        ∙ ap (λ (t : Bool). joined (tree_in p o) (t ⇒ again (part_tree (value_of p m)) (find name (Tree.as_members (map (member_tree p) ms)))
        else find name (Tree.as_members (map (member_tree p) ms)))) (same-sym (name_of p m) name)

    pub find-found : {ms : Tree.Members} → Whole p (Json.object ms) → find name ms ≡ tree_in p (found_in p name)
    unfolding found_in joined
    find-found w = ap (find name) (object-parts p w) ∙ sym (fold_found (members_of p) Missing)

-- a value in p
pub record Value (p : List ℕ) (from upto : ℕ) : Type 0 where
  pub whole : Whole (part p from upto) (part_tree (part p from upto))
  pub some : from < upto
  pub inside : upto ≤ length p

abbrev HoldsValue : List ℕ → Found → Type 0
HoldsValue p Missing = Unit {0}
HoldsValue p (Once from upto) = Value p from upto
HoldsValue p Twice = Unit {0}

-- what each member keeps, the fold over all keeps
pub fold_keeps : {A M : Type 0} (P : A → Type 0) (g : A → M → A) (ms : List M) → ((s : A) (m : M) → Memᴰ m ms → P s → P (g s m))
    → (s : A) → P s → P (foldl g s ms)
fold_keeps P g [] keeps s h = h
fold_keeps P g (m ∷ ms) keeps s h = fold_keeps P g ms (λ t n i. keeps t n (Memᴰ.tail i)) (g s m) (keeps s m (Memᴰ.head refl) h)

module _ (p : List ℕ) where
  member-value : (m : Member) → Memᴰ m (members_of p) → Value p m.value m.value_end
  unfolding members_of
  member-value =
      each (member_steps p) (λ m. Value p m.value m.value_end) (λ at m e.
      let k = member-placed p at m e in record { whole = member-whole p at m e; some = k.value; inside = omega arith })
      (length p) 1

  module _ (name : List ℕ) where
    one_more_lem : (t : Bool) (a e : ℕ) (o : Found) → Value p a e → HoldsValue p o → HoldsValue p (t ⇒ one_more o a e else o)
    one_more_lem false a e o v h = h
    one_more_lem true a e Missing v h = v
    one_more_lem true a e (Once b f) v h = tt
    one_more_lem true a e Twice v h = tt

    found-holds : HoldsValue p (found_in p name)
    unfolding found_in
    found-holds =
        fold_keeps (HoldsValue p) (noted p name) (members_of p) (λ o m i.
        one_more_lem (same (name_of p m) name) m.value m.value_end o (member-value m i)) Missing tt

    pub found-value : (from upto : ℕ) → found_in p name ≡ Once from upto → Value p from upto
    found-value from upto e = subst (HoldsValue p) e found-holds
