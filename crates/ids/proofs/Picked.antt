-- The id of a record in bytes is the field of its picked value, whatever the record is: the member of the id's name is the row of that field, which is the
-- first of the record's shape, and required.
use mathlib.Core.Bool.{true, false}
use mathlib.Core.List.{List}
use mathlib.Core.Path.{◌≡◌, refl}
use Prim.Native.Nat.{ℕ, zero, suc, ◌≤◌}
use native.Mathlib.Omega.{arith}
use Rattle.notation.proofs.Booleans.{by_test, true-false}
use Rattle.word.specs.Form.{written_form}
use Rattle.json_text.specs.Tree.{Json}
use Rattle.walk.specs.Part.{Whole}
use Rattle.schema.specs.Shape as shape
use Rattle.schema.specs.Shape.{Rows}
use Rattle.schema.specs.Records.{Key, record_shape, id_key, has_ids, identified}
use Rattle.schema.specs.Pick.{pick}
use Rattle.schema.proofs.Recorded.{no_key}
use Rattle.document.specs.Document.{text}
use Rattle.document.proofs.Ways.{Requires, here, lists}
use Rattle.document.proofs.FieldBytes.{field-text}
use Rattle.ids.specs.inner.Ids.{id_field, id_name, id_value, id_of}
use Rattle.std.specs.Prelude.{Some}

abbrev fields : ℕ
fields = written_form.fields

-- a file whose records have ids
pub record Identified (n : ℕ) : Type 0 where
  pub key : Key
  pub is : id_key n ≡ Some key
  pub number : (1 ≤ id_field n) × (id_field n ≤ fields)
  pub rows : Rows
  pub object : record_shape n ≡ shape.object rows
  pub required : Requires (id_field n) (id_name n) (shape.scalar shape.id) rows

pub id_of_lem : (n : ℕ) → has_ids n ≡ true → Identified n
unfolding identified id_field id_name
id_of_lem zero h = true-false h refl
id_of_lem (suc zero) h = record { key = _; is = refl; number = omega arith; rows = _; object = refl; required = here }
id_of_lem (suc (suc zero)) h = record { key = _; is = refl; number = omega arith; rows = _; object = refl; required = here }
id_of_lem (suc (suc (suc zero))) h = record { key = _; is = refl; number = omega arith; rows = _; object = refl; required = here }
id_of_lem (suc (suc (suc (suc zero)))) h = record { key = _; is = refl; number = omega arith; rows = _; object = refl; required = here }
id_of_lem (suc (suc (suc (suc (suc zero))))) h = record { key = _; is = refl; number = omega arith; rows = _; object = refl; required = here }
id_of_lem (suc (suc (suc (suc (suc (suc zero)))))) h = true-false h refl
id_of_lem (suc (suc (suc (suc (suc (suc (suc zero))))))) h = true-false h refl
id_of_lem (suc (suc (suc (suc (suc (suc (suc (suc zero)))))))) h = record { key = _; is = refl; number = omega arith; rows = _; object = refl; required = here }
id_of_lem (suc (suc (suc (suc (suc (suc (suc (suc (suc n))))))))) h = true-false h refl

pub id_picked : (sheet : ℕ) → has_ids sheet ≡ true → {q : List ℕ} {x : Json} → Whole q x → id_of sheet q ≡ text (id_field sheet) (pick (record_shape sheet) x)
unfolding id_value
id_picked sheet h w = let d = id_of_lem sheet h in rw d.object (field-text (lists d.required) w)

-- the field is 0 just where there are no ids
pub zero_field : (n : ℕ) → has_ids n ≡ false → id_field n ≡ 0
unfolding id_field
zero_field n h = rw (id_field, no_key n h)

pub has-ids : (n : ℕ) → (id_field n ≡ 0 → ⊥) → has_ids n ≡ true
has-ids n h = by_test (has_ids n) (λ t. t) (λ t. absurd (h (zero_field n t)))

pub no-ids : (n : ℕ) → id_field n ≡ 0 → has_ids n ≡ false
no-ids n e = by_test (has_ids n) (λ t. absurd (omega (arith, e, (id_of_lem n t).number))) (λ t. t)

pub field-most : (n : ℕ) → id_field n ≤ fields
field-most n = by_test (has_ids n) (λ t. (id_of_lem n t).number.1) (λ t. omega (arith, zero_field n t))
