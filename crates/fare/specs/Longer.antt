-- Segments of which more can be said for a longer ride (document 02, W12): those with no negative rate, and those that have all ended.
use Rattle.std.specs.Prelude.{true, ◌≡◌, ℕ, ◌≤◌, pos}
use mathlib.Core.List.{List, Memᴰ}
use Rattle.std.specs.Int.Signed.{le_z}
use Rattle.decimal.specs.Exact.{ten_thousandths}
use Rattle.fare.specs.declared.Segment.{Segment}
use Rattle.fare.specs.Charges.{all_ended, greatest_end}

-- every rate is zero or more, by its exact value: one that is spelled -0 is zero
abbrev pub NoNegativeRate : List Segment → Type 0
NoNegativeRate l = (s : Segment) → Memᴰ s l → le_z (pos 0) (ten_thousandths s.rate) ≡ true

-- every segment has an end, and the ride is at or past the greatest. With a segment this is the mark; without one it holds of every ride, where there
-- is no mark: no charge is left to come.
pub record Settled (l : List Segment) (ride : ℕ) : Type 0 where
  pub ended : all_ended l ≡ true
  pub late : greatest_end l ≤ ride
