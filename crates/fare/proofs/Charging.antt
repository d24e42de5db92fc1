-- The loop over all segments of one sort: those that are left are charged to what all come to, and there is room for them.
use mathlib.Core.List.Memᴰ
use mathlib.Core.List.{List, [], ◌∷◌}
use mathlib.Core.Path.{◌≡◌, refl, sym, ap, ◌∙◌}
use Prim.Native.Nat.{ℕ, zero, suc, ◌+◌, ◌-◌, ◌≤◌, ◌<◌}
use native.Mathlib.Numerals.{add-one}
use native.Mathlib.Omega.{arith}
use lib.ListN.{length, get_or, drop, drop_of_length-le}
use lib.Seq.{drop-cons}
use Rattle.fare.specs.declared.Segment.{Segment}
use Rattle.fare.specs.declared.Sum.{Sum}
use Rattle.fare.specs.Bounds.{most_money}
use Rattle.fare.specs.inner.Folds.{with_charge, with_charges}
use Rattle.fare.specs.inner.Room.{Room, Payable, Modest, Chargeable}
use Rattle.fare.proofs.Bound.{room_less, room_next, payable}

-- the sum before place i, where all come to `all`
pub record Charging (l : List Segment) (ride : ℕ) (all : Sum) (i : ℕ) (sum : Sum) : Type 0 where
  pub room : Room (length l - i) sum
  pub summed : with_charges sum (drop i l) ride ≡ all

modest-at : (l : List Segment) (i : ℕ) (d : Segment) → Modest l → i < length l → (get_or l i d).rate.size ≤ most_money
modest-at [] i d m h = absurd (omega arith)
modest-at (s ∷ l) zero d m h = m s (Memᴰ.head refl)
modest-at (s ∷ l) (suc i) d m h = modest-at l i d (λ t k. m t (Memᴰ.tail k)) (omega arith)

pub charging-start : {sum : Sum} {l : List Segment} {ride : ℕ} → Chargeable sum l ride → Charging l ride (with_charges sum l ride) 0 sum
charging-start {sum} {l} {ride} c = record { room = room_less (length l - 0) (omega arith) c.room; summed = refl }

module _ {l : List Segment} {ride : ℕ} {all sum : Sum} {i : ℕ} (g : Charging l ride all i sum) where
  pub charging-end : length l ≤ i → sum ≡ all
  charging-end h = ap (λ (l : List Segment). with_charges sum l ride) (sym (drop_of_length-le l h)) ∙ g.summed

  module _ {first : Sum} (c : Chargeable first l ride) (d : Segment) (h : i < length l) where
    room-left : Room (suc (length l - (i + 1))) sum
    room-left = room_less (suc (length l - (i + 1))) (omega arith) g.room

    pub charging_payable : Payable sum (get_or l i d) ride
    charging_payable = payable (get_or l i d) ride (modest-at l i d c.modest h) c.short room-left

    pub charging-more : Charging l ride all (i + 1) (with_charge sum (get_or l i d) ride)
    charging-more =
        record {
          room = room_next (get_or l i d) ride (modest-at l i d c.modest h) c.short room-left;
          summed = rw (add-one i) (ap (λ (l : List Segment). with_charges sum l ride) (sym (drop-cons l i d h)) ∙ g.summed);
        }
