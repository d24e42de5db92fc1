-- `id_field` gives 100 for regions, and else ten times the number, or 0 past the last file with ids.
use borrow.Author.Rules.{rules}
use mathlib.Core.Path.{◌≡◌, refl, sym, ap}
use Prim.Native.Nat.{ℕ, zero, suc, ◌*◌, ◌≤◌}
use native.Mathlib.Omega.{arith}
use Rattle.schema.specs.Records.{identified}
use Rattle.schema.proofs.Recorded.{other-ids}
use Rattle.ids.specs.inner.Ids.{id_field}
use Rattle.ids.proofs.Picked.{zero_field}
use Rattle.ids.proofs.id.id_field.Goals as goal

ten_times : (n : ℕ) → n ≤ 5 → n * 10 ≡ id_field n
unfolding identified id_field
ten_times zero h = refl
ten_times (suc zero) h = refl
ten_times (suc (suc zero)) h = refl
ten_times (suc (suc (suc zero))) h = refl
ten_times (suc (suc (suc (suc zero)))) h = refl
ten_times (suc (suc (suc (suc (suc zero))))) h = refl
ten_times (suc (suc (suc (suc (suc (suc n)))))) h = absurd (omega arith)

pub returns-in-8 : goal.returns-in-8
unfolding identified id_field
returns-in-8 c = sym (ap id_field c.in-8.is)

pub returns-in-0-to-5 : goal.returns-in-0-to-5
returns-in-0-to-5 c = ten_times _ (omega arith)

pub returns-in_default : goal.returns-in_default
returns-in_default c = sym (zero_field _ (other-ids _ (λ h i. omega arith) (search rules)))
