-- The promise on ends: where every segment of a sort has an end and the ride is at or past the greatest, the plan quotes what it quotes for a ride
-- of just that length, the other length unchanged, and the mark is set.
use mathlib.Core.Bool.{true}
use mathlib.Core.List.{List, ◌∷◌}
use mathlib.Core.Path.{◌≡◌, sym, ap, subst, ◌∙◌}
use Prim.Native.Nat.{ℕ, ◌*◌, ◌/◌, ◌≤◌}
use native.Mathlib.Omega.{arith}
use Rattle.schema.specs.Pick.{Picked}
use Rattle.decimal.specs.Exact.{ten_thousandths}
use Rattle.fare.specs.declared.Segment.{Segment}
use Rattle.fare.specs.Charges.{minutes_of, kilometres_of, amount, all_ended, greatest_end, past}
use Rattle.fare.proofs.Past.{past-set, amount-past-minutes, amount-past-kilometres}
use Rattle.quote.specs.Plan.{price_at, per_minute, per_kilometre, plan_of, trip_amount, past_minutes, past_kilometres}
use Rattle.quote.specs.Quote.{priced, plan_quote, clean_quote}
use Rattle.std.specs.Prelude.{Some}

-- the shortest ride at the greatest end
abbrev pub last_seconds : Picked → ℕ
last_seconds plan = greatest_end (per_minute plan) * 60

abbrev pub last_metres : Picked → ℕ
last_metres plan = greatest_end (per_kilometre plan) * 1000

-- there are segments, all end, and the ride is at or past the greatest end
pub record Ended (l : List Segment) (ride : ℕ) : Type 0 where
  pub first : Segment
  pub others : List Segment
  pub are : l ≡ first ∷ others
  pub ended : all_ended l ≡ true
  pub late : greatest_end l ≤ ride

ended-marked : {l : List Segment} {ride : ℕ} → Ended l ride → past l ride ≡ true
ended-marked {l} {ride} e =
    ap (λ (z : List Segment). past z ride) e.are
    ∙ past-set e.first e.others ride (ap all_ended (sym e.are) ∙ e.ended) (subst (λ (z : List Segment). greatest_end z ≤ ride) e.are e.late)

module _ (plans : List Picked) (id : List ℕ) {plan : Picked} (found : plan_of plans id ≡ Some plan) (seconds metres : ℕ) where
  pub ended-minutes : Ended (per_minute plan) (minutes_of seconds).count
      → clean_quote plans id seconds metres ≡ priced (trip_amount plan (last_seconds plan) metres) true (past_kilometres plan metres)
  unfolding clean_quote trip_amount past_minutes
  ended-minutes e =
      let t = ended-marked e in
      let n : last_seconds plan / 60 ≡ greatest_end (per_minute plan) = omega arith in
      let same =
      amount-past-minutes (ten_thousandths (price_at plan)) (per_minute plan) (per_kilometre plan) (minutes_of seconds) (kilometres_of metres) t
      ∙ ap (λ (k : ℕ). amount (ten_thousandths (price_at plan)) (per_minute plan) (per_kilometre plan) (record { count = k }) (kilometres_of metres)) (sym n) in
      ap (plan_quote seconds metres) found ∙ ap (λ z. priced z (past (per_minute plan) (minutes_of seconds).count) (past_kilometres plan metres)) same
      ∙ ap (λ m. priced (trip_amount plan (last_seconds plan) metres) m (past_kilometres plan metres)) t

  pub ended-kilometres : Ended (per_kilometre plan) (kilometres_of metres).count
      → clean_quote plans id seconds metres ≡ priced (trip_amount plan seconds (last_metres plan)) (past_minutes plan seconds) true
  unfolding clean_quote trip_amount past_kilometres
  ended-kilometres e =
      let t = ended-marked e in
      let n : last_metres plan / 1000 ≡ greatest_end (per_kilometre plan) = omega arith in
      let same =
      amount-past-kilometres (ten_thousandths (price_at plan)) (per_minute plan) (per_kilometre plan) (minutes_of seconds) (kilometres_of metres) t
      ∙ ap (λ (k : ℕ). amount (ten_thousandths (price_at plan)) (per_minute plan) (per_kilometre plan) (minutes_of seconds) (record { count = k })) (sym n) in
      ap (plan_quote seconds metres) found ∙ ap (λ z. priced z (past_minutes plan seconds) (past (per_kilometre plan) (kilometres_of metres).count)) same
      ∙ ap (λ m. priced (trip_amount plan seconds (last_metres plan)) (past_minutes plan seconds) m) t
