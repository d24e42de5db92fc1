-- What is told and kept, by how many values an answer gives. An answer that gives none is told into any buffer, also one of no bytes, and leaves every byte of it. So
-- 2 is answered only where there is something to write.
use native.Mathlib.Omega.{arith}
use mathlib.Core.Bool.{Bool, true, false}
use mathlib.Core.List.{List, [], ◌++◌}
use mathlib.Core.Path.{◌≡◌, refl}
use Prim.Native.Nat.{ℕ, ◌*◌, ◌/◌, ◌<◌, ◌≤◌}
use lib.ListN.{length, drop}
use borrow.Author.Tests.{le-leb, lt-leb}
use Rattle.notation.specs.Choice.{◌⇒◌else◌}
use Rattle.skaveldro.specs.Encoding.{holds, encoded, filled}
use Rattle.skaveldro.specs.Answers.{Answer, told}

module _ (buffer values : List ℕ) (n count : ℕ) (counted : count ≡ length values) where
  -- the answer of a number that gives values, or none
  abbrev pub giving : Bool → Answer
  giving b = record { number = n; values = b ⇒ values else [] }

  -- a number is told, and the buffer left at these bytes
  abbrev pub Leaves : ℕ → List ℕ → Bool → Type 0
  Leaves r after b = (r ≡ told buffer (giving b)) × (after ≡ filled buffer (giving b).values)

  pub short : (b : Bool) → length buffer / 8 < (b ⇒ count else 0) → Leaves 2 buffer b
  unfolding told filled holds
  short false h = elim h [ ]
  short true h = let no = lt-leb (8 * length values) (length buffer) (omega arith) in (rw no, rw no)

  pub bare : (b : Bool) → 0 < count → (b ⇒ count else 0) ≡ 0 → Leaves n buffer b
  unfolding told filled holds encoded
  bare true some h = absurd (omega arith)
  bare false some h = let yes = le-leb 0 (length buffer) (omega arith) in (rw yes, rw yes)

  pub whole : (b : Bool) → ((b ⇒ count else 0) ≡ 0 → ⊥) → (b ⇒ count else 0) ≤ length buffer / 8 → Leaves n (encoded values ++ drop (8 * length values) buffer) b
  unfolding told filled holds
  whole true some room = let yes = le-leb (8 * length values) (length buffer) (omega arith) in (rw yes, rw yes)
  whole false some room = absurd (some refl)

-- what is not none of the values is all of them
pub all : (b : Bool) (count : ℕ) → ((b ⇒ count else 0) ≡ 0 → ⊥) → (b ⇒ count else 0) ≡ count
all true count some = refl
all false count some = absurd (some refl)
