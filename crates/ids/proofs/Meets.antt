-- The search in bytes is the search among what is picked: the id of a record and what it is asked are the fields of its picked rows, and some record is
-- met from the back just where one is from the front.
use mathlib.Core.Bool.{Bool, true, false}
use mathlib.Core.List.{List, [], ◌∷◌, map, Memᴰ}
use mathlib.Core.Path.{◌≡◌, refl, sym, ap, ap₂, ◌∙◌}
use Prim.Native.Nat.{ℕ, zero, suc}
use native.Mathlib.Omega.{arith}
use lib.ListN.{length, get_or}
use borrow.Author.Tests.{ne_eqb}
use Rattle.notation.specs.Choice.{◌⇒◌else◌, ◌and◌}
use Rattle.json_text.specs.Tree.{Json}
use Rattle.text.specs.Text.{same}
use Rattle.walk.specs.declared.Item.{Item}
use Rattle.walk.specs.Walk.{items_of}
use Rattle.walk.specs.Part.{Whole, part_tree}
use Rattle.walk.proofs.Parts.{item_of, items-whole}
use Rattle.schema.specs.Table23.{vehicle_type, station}
use Rattle.schema.specs.Records.{record_shape, has_ids, located}
use Rattle.schema.specs.Pick.{Picked, pick}
use Rattle.document.specs.Document.{text}
use Rattle.document.specs.inner.Items.{picked_items}
use Rattle.document.specs.inner.Values.{is_id}
use Rattle.document.proofs.FieldBytes.{row_of, listed, field-text, field-given}
use Rattle.ids.specs.inner.Ids.{id_field, id_of, record_bytes, passing, meeting, any_meets}
use Rattle.ids.proofs.Picked.{id_picked}
use Rattle.ids.specs.References.{any_with, not_human}
use Rattle.ids.specs.inner.Known.{test_of, tested_of}
use Rattle.std.specs.Prelude.{Option, None, Some}

-- the record of a file answers alike in bytes and picked
record Alike (sheet : ℕ) (q : List ℕ) (x : Picked) : Type 0 where
  id : id_of sheet q ≡ text (id_field sheet) x
  passed : passing sheet q ≡ test_of sheet x

passed_picked : (sheet : ℕ) {q : List ℕ} {x : Json} → Whole q x → passing sheet q ≡ test_of sheet (pick (record_shape sheet) x)
unfolding located vehicle_type station row_of
passed_picked zero w = refl
passed_picked (suc zero) w = ap not_human (field-text (listed refl) w)
passed_picked (suc (suc zero)) w = field-given (listed refl) w
passed_picked (suc (suc (suc n))) w = rw (ne_eqb (suc (suc (suc n))) 1 (λ e. omega arith), ne_eqb (suc (suc (suc n))) 2 (λ e. omega arith))

alike : (sheet : ℕ) → has_ids sheet ≡ true → {q : List ℕ} {x : Json} → Whole q x → Alike sheet q (pick (record_shape sheet) x)
alike sheet h w = record { id = id_picked sheet h w; passed = passed_picked sheet w }

module _ (sheet : ℕ) (tested : Bool) (id : List ℕ) where
  asked : (t : Bool) {q : List ℕ} {x : Picked} → Alike sheet q x → (t ⇒ passing sheet q else true) ≡ tested_of sheet t x
  asked true a = a.passed
  asked false a = refl

  alike-meeting : {q : List ℕ} {x : Picked} → Alike sheet q x → meeting sheet tested id q ≡ (is_id id (text (id_field sheet) x) and tested_of sheet tested x)
  alike-meeting a = ap₂ ◌and◌ (ap (is_id id) a.id) (asked tested a)

  -- from the front
  any_step : (test : Picked → Bool) (f : ℕ) (x : Picked) (l : List Picked) → any_with test f (x ∷ l) id ≡ (is_id id (text f x) and test x ⇒ true else any_with test f l id)
  unfolding any_with
  any_step test f x l = go (text f x)
    where
      go : (o : Option (List ℕ)) → (elim o [ None ↦ any_with test f l id | Some t ↦ same t id and test x ⇒ true else any_with test f l id ])
          ≡ (is_id id o and test x ⇒ true else any_with test f l id)
      go None = refl
      go (Some t) = refl

  any-front : (q : List ℕ) (l : List (List ℕ)) (n : ℕ) → any_meets sheet tested id (q ∷ l) (suc n) ≡ (meeting sheet tested id q ⇒ true else any_meets sheet tested id l n)
  unfolding any_meets
  any-front q l zero = refl
  any-front q l (suc n) =
      let ih = any-front q l n in
      ap (λ (t : Bool). meeting sheet tested id (get_or l n []) ⇒ true else t) ih ∙ swapped (meeting sheet tested id (get_or l n [])) (meeting sheet tested id q) (any_meets sheet tested id l n)
    where
      swapped : (a b c : Bool) → (a ⇒ true else (b ⇒ true else c)) ≡ (b ⇒ true else (a ⇒ true else c))
      swapped true true c = refl
      swapped true false c = refl
      swapped false true c = refl
      swapped false false c = refl

  alike_all : (bytes_of : Item → List ℕ) (picked_of : Item → Picked) (ms : List Item) → ((m : Item) → Memᴰ m ms → Alike sheet (bytes_of m) (picked_of m))
      → any_meets sheet tested id (map bytes_of ms) (length ms) ≡ any_with (tested_of sheet tested) (id_field sheet) (map picked_of ms) id
  unfolding any_meets any_with
  alike_all f g [] a = refl
  alike_all f g (m ∷ ms) a =
      any-front (f m) (map f ms) (length ms)
      ∙ ap₂ (λ (t u : Bool). t ⇒ true else u) (alike-meeting (a m (Memᴰ.head refl))) (alike_all f g ms (λ n i. a n (Memᴰ.tail i)))
      ∙ sym (any_step (tested_of sheet tested) (id_field sheet) (g m) (map g ms))

-- all records of an array
pub meets_picked : (sheet : ℕ) → has_ids sheet ≡ true → (tested : Bool) (id p : List ℕ)
    → any_meets sheet tested id (record_bytes p) (length (items_of p)) ≡ any_with (tested_of sheet tested) (id_field sheet) (picked_items (record_shape sheet) p) id
unfolding record_bytes
meets_picked sheet h tested id p =
    alike_all sheet tested id (item_of p) (λ m. pick (record_shape sheet) (part_tree (item_of p m))) (items_of p) (λ m j. alike sheet h (items-whole p m j))
