-- The search by halves, over positions: `probe` tells of a position how what stands there is in order to what is wanted. The search reads the position in the
-- middle and goes on in one half; each read is counted, and where the reads are used up nothing more is read.
use Rattle.std.specs.Prelude.{List, ◌≡◌, ℕ, zero, suc, ◌+◌, ◌-◌, ◌/◌, ◌≤◌, ◌<◌, ltb}
use Rattle.notation.specs.Choice.{◌⇒◌else◌}
use Rattle.text.specs.Ordering.{order_of}
use Rattle.sorting.specs.declared.Lookup.{Lookup}
use Rattle.std.specs.declared.cmp.Ordering.{Ordering}
use Rattle.std.specs.declared.cmp.Ordering.TheVariants.{Less, Equal, Greater}

-- the position in the middle
abbrev pub middle : (lo hi : ℕ) → ℕ
middle lo hi = lo + (hi - lo) / 2

-- what is found from the position lo up to hi, with a number of reads at most
unfoldable pub found_by : (probe : ℕ → Ordering) → (reads lo hi : ℕ) → Lookup
found_by probe zero lo hi = record { met = 0; left = 0 }
found_by probe (suc reads) lo hi =
    ltb lo hi ⇒
    elim (probe (middle lo hi)) [
      | Less ↦ found_by probe reads (middle lo hi + 1) hi
      | Equal ↦ record { met = middle lo hi + 1; left = reads }
      | Greater ↦ found_by probe reads lo (middle lo hi)
    ]
    else record { met = 0; left = suc reads }

-- none of the first n ids comes after a later one
abbrev pub Ascending : (ids : ℕ → List ℕ) → (n : ℕ) → Type 0
Ascending ids n = (i j : ℕ) → i ≤ j → j < n → order_of (ids i) (ids j) ≡ Greater → ⊥
