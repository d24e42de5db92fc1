-- Which sheets have records, and records ids, by numbers: there is a way to records for 1 to 6 and 8, and in 6 a record's first field is no id.
use mathlib.Core.Bool.{true, false}
use mathlib.Core.Path.{◌≡◌, ap}
use Prim.Native.Nat.{ℕ, ◌≤◌}
use native.Mathlib.Decide.{ℕ_discrete}
use native.Mathlib.Omega.{arith}
use Rattle.notation.specs.Given.{given}
use Rattle.notation.proofs.Booleans.{by_test, true-false}
use Rattle.notation.proofs.Options.{given-none}
use Rattle.schema.specs.Shape.{Shape}
use Rattle.schema.specs.Tables.{sheets}
use Rattle.schema.specs.Records.{way_in, way_to, record_in, id_in, id_of, id_key, has_records, has_ids, located, identified}
use Rattle.schema.specs.Later.{rows_of}
use Rattle.schema.proofs.Computed.{no-file}
use Rattle.std.specs.Prelude.{None}

pub no_way : (n : ℕ) → has_records n ≡ false → way_to n ≡ None
no_way n e = given-none (way_to n) e

pub no_key : (n : ℕ) → has_ids n ≡ false → id_key n ≡ None
no_key n e = given-none (id_key n) e

-- without records there are no ids
no-ids : (n : ℕ) → has_records n ≡ false → has_ids n ≡ false
unfolding id_of record_in rows_of id_in
no-ids n e = rw (id_of, record_in, no_way n e)

pub ids-recorded : (n : ℕ) → has_ids n ≡ true → has_records n ≡ true
ids-recorded n h = by_test (has_records n) (λ t. t) (λ t. true-false h (no-ids n t))

-- other numbers
other-records : (n : ℕ) → (1 ≤ n → n ≤ 6 → ⊥) → (n ≡ 8 → ⊥) → has_records n ≡ false
unfolding located
other-records n h e =
    elim (ℕ_discrete n 7) [ yes i ↦ ap has_records i | no i ↦ ap (λ (σ : Shape). given (way_in σ)) (no-file sheets n (λ j k. h j (omega arith))) ]

pub other-ids : (n : ℕ) → (1 ≤ n → n ≤ 5 → ⊥) → (n ≡ 8 → ⊥) → has_ids n ≡ false
unfolding identified
other-ids n h e = elim (ℕ_discrete n 6) [ yes i ↦ ap has_ids i | no i ↦ no-ids n (other-records n (λ j k. h j (omega arith)) e) ]
