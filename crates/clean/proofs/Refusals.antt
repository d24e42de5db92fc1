-- What the tests of a file's number and of its length tell. The functions cite these by name, so that their proofs name no goal by a literal.
use mathlib.Core.List.{List}
use mathlib.Core.Path.{◌≡◌}
use Prim.Native.Nat.{ℕ, ◌<◌}
use native.Mathlib.Omega.{arith}
use lib.ListN.{length}
use Rattle.schema.specs.Shape.{Shape}
use Rattle.schema.specs.Tables.{sheet_shape}
use Rattle.fault.specs.Outcome.{file_count, unbroken}
use Rattle.word.specs.declared.refusal.Refusal.TheVariants.{NoFile}
use Rattle.clean.specs.Clean.{clean_in}
use Rattle.clean.specs.Show.{answer, shown_by}
use Rattle.clean.specs.inner.Noted.{RecordsNoted}
use Rattle.clean.proofs.Judged.{clean-absent, shown-none}
use Rattle.std.specs.Prelude.{Err}

-- nothing is wrong with a file that is not there, and it has no records to note
pub absent : (sheet file : ℕ) (s notes : List ℕ) → length s ≡ 0
    → (unbroken ≡ clean_in (sheet_shape sheet) file s) × (unbroken ≡ unbroken → RecordsNoted sheet s notes)
absent sheet file s notes e = (clean-absent (sheet_shape sheet) file s e, λ i h. absurd (omega arith))

-- no file has a number past the last
pub past_last : (σ : Shape) (f n : ℕ) (s : List ℕ) → file_count < f → answer (Err NoFile) ≡ shown_by σ f n s
past_last σ f n s h = shown-none σ f n s (λ i j. omega arith)
