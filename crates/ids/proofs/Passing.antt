-- The pass over the records of an array that enters them: each is the next one that is left.
use mathlib.Core.Bool.{false}
use mathlib.Core.List.{List, [], ◌∷◌, map}
use mathlib.Core.Path.{◌≡◌, refl, sym, ap, ◌∙◌}
use Prim.Native.Nat.{ℕ, suc, ◌+◌, ◌≤◌, ◌<◌}
use native.Mathlib.Numerals.{add-one}
use native.Mathlib.Omega.{arith}
use lib.ListN.{length, get_or, drop, length-map}
use lib.Seq.{drop-cons}
use Rattle.limits.specs.Ceilings.{records, file_bytes}
use Rattle.walk.specs.declared.Item.{Item}
use Rattle.walk.specs.Walk.{items_of}
use Rattle.walk.specs.inner.Along.{AlongItems, ItemPassed}
use Rattle.walk.proofs.Left.{Left, Onward, left-start, left_end, left-more, left-whole, left-among}
use Rattle.walk.proofs.Parts.{item_of}
use Rattle.ids.specs.inner.Ids.{id_of, AllIdsOnce, record_bytes, any_has, repeated}
use Rattle.ids.specs.inner.Notes.{size, Next, Noted}
use Rattle.ids.proofs.Entering.{noted-none}
use Rattle.std.specs.Prelude.{Option, Some, None}

-- by the id of a record
module _ (sheet : ℕ) (passed : List (List ℕ)) (q : List ℕ) where
  by_id : (o : Option (List ℕ)) → id_of sheet q ≡ o → (elim o [ None ↦ false | Some id ↦ any_has sheet id passed ]) ≡ repeated sheet passed q
  by_id o e = ap (λ (x : Option (List ℕ)). elim x [ None ↦ false | Some id ↦ any_has sheet id passed ]) (sym e)

  pub repeated-none : id_of sheet q ≡ None → false ≡ repeated sheet passed q
  repeated-none e = by_id None e

  pub repeated-some : (id : List ℕ) → id_of sheet q ≡ Some id → any_has sheet id passed ≡ repeated sheet passed q
  repeated-some id e = by_id (Some id) e

-- the first n records of the array are entered; those from `at` on are left
pub record Noting (sheet : ℕ) (p notes : List ℕ) (n at : ℕ) : Type 0 where
  items : List Item
  pub left : Left p at items
  count : n + length items ≡ length (items_of p)
  rest : drop n (record_bytes p) ≡ map (item_of p) items
  pub noted : Noted sheet p n notes

pub noting_start : {sheet : ℕ} {p notes : List ℕ} → length notes ≡ size → (0 < length p → AlongItems p 1) → Noting sheet p notes 0 1
unfolding record_bytes
noting_start {sheet} {p} z a = record { items = items_of p; left = left-start a; count = omega arith; rest = refl; noted = noted-none z }

-- what a step that passes over the next record finds
module _ {sheet : ℕ} {p notes : List ℕ} {n at : ℕ} (w : Noting sheet p notes n at) {s : Option Item} (f : ItemPassed p at s) where
  pub noting_end : s ≡ None → n ≡ length (items_of p)
  noting_end e = omega (arith, w.count, ap length (left_end w.left f e))

  module _ (m : Item) (e : s ≡ Some m) where
    onward : Onward p m w.items
    onward = left-more w.left f e

    inside : n < length (record_bytes p)
    unfolding record_bytes
    inside = omega (arith, w.count, ap length onward.is, length-map (items_of p) (item_of p))

    split : get_or (record_bytes p) n [] ∷ drop (suc n) (record_bytes p) ≡ item_of p m ∷ map (item_of p) onward.rest
    split = sym (drop-cons (record_bytes p) n [] inside) ∙ w.rest ∙ ap (map (item_of p)) onward.is

    room : length (items_of p) ≤ records → n < records
    room h = omega (arith, h, w.count, ap length onward.is)

    is : item_of p m ≡ get_or (record_bytes p) n []
    is = cc split

    pub noting_next : length (items_of p) ≤ records → length p ≤ file_bytes → AllIdsOnce sheet p → Next sheet p n m
    noting_next h i single =
        let k = f.placed m e in
        record {
          room = room h;
          short = i;
          starts = omega (arith, k.value);
          ends = omega (arith, k.next, k.inside);
          among = left-among w.left f e;
          whole = left-whole w.left f e;
          single = single m (left-among w.left f e);
          is = is;
        }

    pub noting_more : {now' : List ℕ} → Noted sheet p (n + 1) now' → Noting sheet p now' (n + 1) m.next
    noting_more k =
        record {
          items = onward.rest;
          left = onward.left;
          count = omega (arith, w.count, ap length onward.is);
          rest = ap (λ (k : ℕ). drop k (record_bytes p)) (add-one n) ∙ cc split;
          noted = k;
        }
