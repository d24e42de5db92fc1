-- What holds of the files one after another holds of each by its number, by induction on how many are left; and what is known of a file by its number is known
-- of the bytes that a function was handed.
use mathlib.Core.List.{List}
use mathlib.Core.Path.{◌≡◌, sym, subst}
use Prim.Native.Nat.{ℕ, zero, suc, ◌+◌, ◌≤◌, ◌<◌}
use native.Mathlib.Decide.{ℕ_discrete}
use native.Mathlib.Omega.{arith}
use Rattle.fault.specs.Outcome.{file_count}
use Rattle.ids.specs.inner.Known.{Searchable}

-- it holds of `left` numbers from a file's on
unfoldable pub Each : (ℕ → Type 0) → (file left : ℕ) → Type 0
Each P file zero = Unit {0}
Each P file (suc left) = P file × Each P (file + 1) left

each_at : (P : ℕ → Type 0) (file left : ℕ) → Each P file left → (k : ℕ) → file ≤ k → k < file + left → P k
unfolding Each
each_at P file zero e k h i = absurd (omega arith)
each_at P file (suc left) e k h i =
    let ih = each_at P (file + 1) left e.1 k in
    elim (ℕ_discrete k file) [ yes q ↦ subst P (sym q) e.0 | no q ↦ ih (omega arith) (omega arith) ]

pub by_number : (P : ℕ → Type 0) → Each P 1 file_count → (file : ℕ) → 1 ≤ file → file ≤ file_count → P file
by_number P e file h i = each_at P 1 file_count e file h (omega arith)

pub searchable_by : {sheet : ℕ} {p q notes lent : List ℕ} → q ≡ p → lent ≡ notes → Searchable sheet p notes → Searchable sheet q lent
searchable_by {sheet} {p} {q} {notes} {lent} e k h =
    subst (λ (l : List ℕ). Searchable sheet l lent) (sym e) (subst (Searchable sheet p) (sym k) h)
