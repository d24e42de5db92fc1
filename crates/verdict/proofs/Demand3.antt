-- Demand 3, undivided. Where each file of a set is changed only in blanks, in how its strings are spelled, in the order of its members and in members that
-- the table doesn't list, and stays within length and depth, the verdict's number and word, every quote and every zone rule stay what they are. And a set in
-- which some file is a JSON text of another version is not accepted, by a table that asks for the version: for field 1 of that file, or for something that comes
-- before it. Table 0 asks for it.
use mathlib.Core.Path.{◌≡◌, refl}
use Prim.Native.Nat.{ℕ}
use Rattle.schema.specs.Shape.{Shape, Rows, required, exactly, object, file_shape, ◌·◌·◌∶◌▸◌}
use Rattle.schema.specs.Tables.{table_at, written}
use Rattle.notation.specs.Ascii.{bytes}
use Rattle.cross.proofs.Numbers.{by_number, Each}
use Rattle.verdict.specs.Demand3.{AsksVersion, Demand3}
use Rattle.verdict.proofs.Unchanged.{unmoved}
use Rattle.verdict.proofs.Version.{refused}

pub demand_3 : (table : ℕ) → Demand3 (table_at table)
demand_3 table = record { unmoved = unmoved table; other_version = refused table }

abbrev Asked : Shape → Type 0
Asked σ = (rows : Rows) × (σ ≡ object (1 · required · "version" ∶ exactly (bytes "2.3") ▸ rows))

asked : {rows : Rows} → Asked (object (1 · required · "version" ∶ exactly (bytes "2.3") ▸ rows))
asked = (_, refl)

pub first-asks : AsksVersion (table_at 0)
unfolding Each file_shape written
first-asks = by_number (λ file. Asked (file_shape (table_at 0) file)) (asked, (asked, (asked, (asked, (asked, (asked, (asked, (asked, tt))))))))
