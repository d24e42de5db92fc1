-- What a plan's price and its two arrays of segments come to is its quote: the segments of the bytes are the picked ones, there is room for the charges
-- of both, and price and charges make the amount.
use mathlib.Core.List.{List}
use mathlib.Core.Path.{◌≡◌, sym, ap, subst, ◌∙◌}
use Prim.Native.Nat.{ℕ, ◌+◌, ◌-◌, ◌^◌, ◌≤◌, ◌<◌}
use native.Mathlib.Omega.{arith}
use lib.ListN.{length}
use lib.IntN.{nat_abs}
use Rattle.notation.specs.Ascii.{bytes}
use Rattle.limits.specs.Ceilings.{segments}
use Rattle.walk.specs.Part.{part_tree}
use Rattle.schema.specs.Pick.{Picked, pick}
use Rattle.schema.specs.Table23 as table
use Rattle.document.specs.Document.{field_items}
use Rattle.fare.specs.declared.Segment.{Segment}
use Rattle.fare.specs.declared.Sum.{Sum}
use Rattle.fare.specs.Charges as charges
use Rattle.fare.specs.Charges.{minutes_of, kilometres_of}
use Rattle.fare.specs.inner.Folds.{worth, of_price, with_charges, with_all}
use Rattle.fare.specs.Bounds.{most_minutes, most_kilometres}
use Rattle.fare.specs.inner.Room.{Room, Modest, Chargeable, Quotable}
use Rattle.fare.proofs.Worth.{clamped-difference}
use Rattle.fare.proofs.Fold.{sum_kept}
use Rattle.fare.proofs.Bound.{minutes-short, kilometres-short, room-price, room_less, room-charges}
use Rattle.fare.proofs.Size.{amount-size}
use Rattle.quote.specs.Plan.{price_at, per_minute, per_kilometre, trip_amount, past_minutes, past_kilometres}
use Rattle.document.specs.inner.Values.{member_of, array_by}
use Rattle.quote.specs.inner.Values.{price_by, segments_by}
use Rattle.quote.specs.inner.Clear.{ClearPlan}
use Rattle.quote.specs.Quote.{most_seconds, most_metres, priced, plan_quote}
use Rattle.quote.proofs.Fields.{plan-price, plan-minutes, plan-kilometres, minutes-clear, kilometres-clear}
use Rattle.quote.proofs.Segments.{price-most, segments-modest, segments-few, segments-picked}
use Rattle.std.specs.Prelude.{Some}

-- price and segments by the bytes of a plan
abbrev pub price : List ℕ → Sum
price p = of_price (price_by (member_of p (bytes "price")))

abbrev minute_bytes : List ℕ → List ℕ
minute_bytes p = array_by (member_of p (bytes "per_min_pricing"))

abbrev kilometre_bytes : List ℕ → List ℕ
kilometre_bytes p = array_by (member_of p (bytes "per_km_pricing"))

abbrev pub by_minute : List ℕ → List Segment
by_minute p = segments_by (minute_bytes p)

abbrev pub by_kilometre : List ℕ → List Segment
by_kilometre p = segments_by (kilometre_bytes p)

module _ {p : List ℕ} (c : ClearPlan p) where
  abbrev plan : Picked
  plan = pick table.plan (part_tree p)

  minutes-are : by_minute p ≡ per_minute plan
  unfolding per_minute
  minutes-are = segments-picked 62 (minute_bytes p) (field_items 61 plan) (plan-minutes c.whole)

  kilometres-are : by_kilometre p ≡ per_kilometre plan
  unfolding per_kilometre
  kilometres-are = segments-picked 57 (kilometre_bytes p) (field_items 56 plan) (plan-kilometres c.whole)

  few-minutes : length (by_minute p) ≤ segments
  few-minutes = segments-few (minute_bytes p) (minutes-clear c)

  few-kilometres : length (by_kilometre p) ≤ segments
  few-kilometres = segments-few (kilometre_bytes p) (kilometres-clear c)

  -- room for the per-minute segments, and behind them for the others
  price-room : Room (segments + segments) (price p)
  price-room = room_less (segments + segments) (omega arith) (room-price (price_by (member_of p (bytes "price"))) (price-most (member_of p (bytes "price"))))

  pub minutes_chargeable : (ride : ℕ) → ride ≤ most_minutes → Chargeable (price p) (by_minute p) ride
  minutes_chargeable ride h =
      record { room = room_less (length (by_minute p)) (omega (arith, few-minutes)) price-room; modest = segments-modest (minute_bytes p); short = h }

  pub timed_room : (ride : ℕ) → ride ≤ most_minutes → Room (length (by_kilometre p)) (with_charges (price p) (by_minute p) ride)
  timed_room ride h =
      room-charges (length (by_kilometre p)) (by_minute p) (price p) ride (segments-modest (minute_bytes p)) h
      (room_less (length (by_kilometre p) + length (by_minute p)) (omega (arith, few-minutes, few-kilometres)) price-room)

  pub kilometres_chargeable : (ride far : ℕ) → ride ≤ most_minutes → far ≤ most_kilometres → Chargeable (with_charges (price p) (by_minute p) ride) (by_kilometre p) far
  kilometres_chargeable ride far h k =
      record { room = timed_room ride h; modest = segments-modest (kilometre_bytes p); short = omega arith }

  -- the plan is within the ceilings, for a ride that is
  pub quotable : (seconds metres : ℕ) → seconds ≤ most_seconds → metres ≤ most_metres
      → Quotable (price_at plan) (per_minute plan) (per_kilometre plan) (minutes_of seconds) (kilometres_of metres)
  quotable seconds metres short near =
      record {
        cheap = rw (plan-price c.whole) at (price-most (member_of p (bytes "price")));
        few-minutes = rw minutes-are at few-minutes;
        few-kilometres = rw kilometres-are at few-kilometres;
        modest-minutes = subst Modest minutes-are (segments-modest (minute_bytes p));
        modest-kilometres = subst Modest kilometres-are (segments-modest (kilometre_bytes p));
        short-minutes = minutes-short seconds short;
        short-kilometres = kilometres-short metres near;
      }

  module _ (seconds metres : ℕ) where
    amount-is : charges.clamped (worth (with_charges (with_charges (price p) (by_minute p) (minutes_of seconds).count) (by_kilometre p) (kilometres_of metres).count)) ≡ trip_amount plan seconds metres
    unfolding trip_amount charges.amount
    amount-is =
        rw (minutes-are, kilometres-are, plan-price c.whole)
        (ap charges.clamped (sum_kept (price_at plan) (per_minute plan) (per_kilometre plan) (minutes_of seconds) (kilometres_of metres)))

    -- what is added and what is taken off are apart by no more than the largest sum
    pub amount-room : seconds ≤ most_seconds → metres ≤ most_metres
        → let all = with_charges (with_charges (price p) (by_minute p) (minutes_of seconds).count) (by_kilometre p) (kilometres_of metres).count in all.added - all.taken < 2 ^ 63
    unfolding trip_amount
    amount-room short near =
        let all = with_charges (with_charges (price p) (by_minute p) (minutes_of seconds).count) (by_kilometre p) (kilometres_of metres).count in
        let is : nat_abs (trip_amount plan seconds metres) ≡ all.added - all.taken = ap nat_abs (sym amount-is ∙ clamped-difference all.added all.taken) in
        omega (arith, amount-size _ _ _ _ _ (quotable seconds metres short near))

    pub plan-quoted : let timed = with_all (price p) (by_minute p) (minutes_of seconds).count in let all = with_all timed.sum (by_kilometre p) (kilometres_of metres).count in
        priced (charges.clamped (worth all.sum)) timed.past all.past ≡ plan_quote seconds metres (Some plan)
    unfolding past_minutes past_kilometres
    plan-quoted =
        rw (amount-is, ap (λ (l : List Segment). charges.past l (minutes_of seconds).count) minutes-are, ap (λ (l : List Segment). charges.past l (kilometres_of metres).count) kilometres-are)
