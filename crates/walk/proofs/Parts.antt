-- The parts of a text that a step finds: a member's or item's value is whole by itself, and a name's bytes decode to the name. So a value
-- inside another is judged by its own bytes, like a file.
use mathlib.Core.List.{List, ◌∷◌, Memᴰ}
use mathlib.Core.Path.{◌≡◌, sym, ap, subst, ◌∙◌}
use Prim.Native.Nat.{ℕ, ◌+◌, ◌-◌, ◌≤◌, ◌<◌}
use native.Mathlib.Omega.{arith}
use lib.ListN.{length, drop, take, length-append, length-drop}
use lib.Seq.{take_at}
use Rattle.limits.specs.Ceilings.{depth}
use Rattle.lexeme.specs.Read.Read.{done}
use Rattle.lexeme.specs.Character.{paired}
use Rattle.lexeme.specs.Strings
use Rattle.lexeme.proofs.StrongPrefixes.{string-spelled}
use Rattle.json_text.specs.Tree.{Json}
use Rattle.json_text.specs.Text.{value}
use Rattle.json_text.proofs.Local.{value-part}
use Rattle.walk.specs.declared.Member.{Member}
use Rattle.walk.specs.declared.Item.{Item}
use Rattle.walk.specs.Walk.{part, member_at, item_at, items_of}
use Rattle.walk.specs.Part.{Whole, part_tree}
use Rattle.walk.proofs.Places.{Spelt, ItemSpelt, found-member, found-item}
use Rattle.walk.proofs.Folds.{each, item_steps}
use Rattle.walk.proofs.Wholes.{whole-tree}
use Rattle.std.specs.Prelude.{Some}

-- the parts of p that a member or item tells
module _ (p : List ℕ) where
  abbrev pub name_of : Member → List ℕ
  name_of m = Strings.decoded paired 0 (part p m.name m.name_end)

  abbrev pub value_of : Member → List ℕ
  value_of m = part p m.value m.value_end

  abbrev pub item_of : Item → List ℕ
  item_of m = part p m.value m.value_end

-- a value in p, between places
cut-whole : (p : List ℕ) (a e : ℕ) (x : Json) → a < e → e ≤ length p → value paired depth (drop a p) ≡ done x (drop e p) → Whole (part p a e) x
cut-whole p a e x h i reads = record { reads = value-part paired depth x p a e (omega arith) i reads }

module _ {p : List ℕ} {at : ℕ} {m : Member} {text : List ℕ} {x : Json} (s : Spelt p at m text x) where
  pub spelt_value : Whole (value_of p m) x
  spelt_value = let k = s.placed in cut-whole p m.value m.value_end x k.value (omega arith) s.reads

  pub spelt_name : name_of p m ≡ text
  spelt_name =
      let k = s.placed in
      let w = string-spelled paired 0 (drop m.name p) text (drop (m.name_end + 1) p) s.spells in
      let n : length w.part ≡ m.name_end - m.name =
      omega (arith, ap length w.splits, length-append w.part (0x22 ∷ drop (m.name_end + 1) p), length-drop m.name p, length-drop (m.name_end + 1) p) in
      ap (Strings.decoded paired 0) (ap (take (m.name_end - m.name)) w.splits ∙ take_at w.part _ (m.name_end - m.name) n) ∙ w.decodes

  pub spelt_tree : part_tree (value_of p m) ≡ x
  spelt_tree = whole-tree spelt_value

module _ {p : List ℕ} {at : ℕ} {m : Item} {x : Json} (s : ItemSpelt p at m x) where
  pub item-value : Whole (item_of p m) x
  item-value = let k = s.placed in cut-whole p m.value m.value_end x k.value (omega arith) s.reads

  pub item-tree : part_tree (item_of p m) ≡ x
  item-tree = whole-tree item-value

-- whatever a step found
module _ (p : List ℕ) where
  pub member-whole : (at : ℕ) (m : Member) → member_at p at ≡ Some m → Whole (value_of p m) (part_tree (value_of p m))
  member-whole at m e = let f = found-member p at m e in subst (Whole (value_of p m)) (sym (spelt_tree f.spelt)) (spelt_value f.spelt)

  pub item-whole : (at : ℕ) (m : Item) → item_at p at ≡ Some m → Whole (item_of p m) (part_tree (item_of p m))
  item-whole at m e = let f = found-item p at m e in subst (Whole (item_of p m)) (sym (item-tree f.spelt)) (item-value f.spelt)

  pub items-whole : (m : Item) → Memᴰ m (items_of p) → Whole (item_of p m) (part_tree (item_of p m))
  unfolding items_of
  items-whole = each (item_steps p) (λ m. Whole (item_of p m) (part_tree (item_of p m))) item-whole (length p) 1
