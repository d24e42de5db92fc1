-- The promises on size. The plan of an id in a clean file is clear, so that it and a ride within the limits keep every ceiling; a quote that has no such plan or no such
-- ride gives no amount.
use mathlib.Core.Bool.{Bool, true, false}
use mathlib.Core.List.{List, [], ◌∷◌, Memᴰ}
use mathlib.Core.Path.{◌≡◌, refl, sym, ap, subst, ◌∙◌}
use Prim.Native.Nat.{ℕ, ◌≤◌}
use native.Mathlib.Omega.{arith}
use lib.IntN.{nat_abs}
use Rattle.schema.specs.Shape.{Table, file_shape}
use Rattle.schema.specs.Tables.{table_at}
use Rattle.schema.specs.Pick.{Picked}
use Rattle.fare.specs.Charges.{minutes_of, kilometres_of}
use Rattle.fare.specs.Bounds.{most_sum}
use Rattle.fare.specs.inner.Room.{Quotable}
use Rattle.fare.proofs.Size.{sum-size, amount-size, sum_room}
use Rattle.clean.specs.Clean.{records_in, clean_of}
use Rattle.quote.specs.Plan.{price_at, per_minute, per_kilometre, plan_of, trip_amount, past_minutes, past_kilometres}
use Rattle.quote.specs.Quote.{Answer, priced, plan_quote, clean_quote, short, quote_of}
use Rattle.quote.specs.Size.{PlanIn, trip_sum, Sized}
use Rattle.quote.proofs.Files.{short-both, found-clear, quote-long, quote-of}
use Rattle.quote.proofs.Trips.{quotable}
use Rattle.fault.specs.Outcome.{Outcome, unbroken}
use Rattle.std.specs.Prelude.{Err, Ok, Option, None, Some}

-- what every quote keeps: its amount's size and its number
record Kept (a : Answer) : Type 0 where
  size : nat_abs a.amount ≤ most_sum
  number : Memᴰ a.number (0 ∷ 4 ∷ 5 ∷ 6 ∷ [])

-- by a table
module _ (table : ℕ) where
  abbrev t : Table
  t = table_at table

  -- the plan of an id in a clean file, and a ride within the limits
  module _ {s id : List ℕ} {plan : Picked} (p : PlanIn t s id plan) (seconds metres : ℕ) (brief : short seconds metres ≡ true) where
    within : Quotable (price_at plan) (per_minute plan) (per_kilometre plan) (minutes_of seconds) (kilometres_of metres)
    within =
        let b = short-both seconds metres brief in
        let k = found-clear table s id plan p.clean p.found in
        subst (λ (x : Picked). Quotable (price_at x) (per_minute x) (per_kilometre x) (minutes_of seconds) (kilometres_of metres)) (sym k.2) (quotable k.1 seconds metres b.0 b.1)

    trip_sum_lem : nat_abs (trip_sum plan seconds metres) ≤ most_sum
    trip_sum_lem = sum-size _ _ _ _ _ within

    trip_amount_lem : nat_abs (trip_amount plan seconds metres) ≤ most_sum
    unfolding trip_amount
    trip_amount_lem = amount-size _ _ _ _ _ within

    quoted : quote_of t s id seconds metres ≡ priced (trip_amount plan seconds metres) (past_minutes plan seconds) (past_kilometres plan metres)
    unfolding clean_quote
    quoted =
        sym (quote-of t s id seconds metres brief unbroken (sym p.clean)) ∙ ap (plan_quote seconds metres) p.found

  kept : (s id : List ℕ) (seconds metres : ℕ) → Kept (quote_of t s id seconds metres)
  unfolding clean_quote
  kept s id seconds metres = by-ride (short seconds metres) refl
    where
      by-plan : short seconds metres ≡ true → clean_of t 5 s ≡ unbroken → (o : Option Picked) → plan_of (records_in (file_shape t 5) s) id ≡ o → Kept (quote_of t s id seconds metres)
      by-plan e c None f =
          subst Kept (ap (plan_quote seconds metres) (sym f) ∙ quote-of t s id seconds metres e unbroken (sym c))
          (record { size = omega arith; number = Memᴰ.tail (Memᴰ.tail (Memᴰ.tail (Memᴰ.head refl))) })
      by-plan e c (Some plan) f =
          let p : PlanIn t s id plan = record { clean = c; found = f } in
          subst Kept (sym (quoted p seconds metres e)) (record { size = trip_amount_lem p seconds metres e; number = Memᴰ.head refl })

      by-file : short seconds metres ≡ true → (x : Outcome) → x ≡ clean_of t 5 s → Kept (quote_of t s id seconds metres)
      by-file e (Ok _) c = by-plan e (sym c) (plan_of (records_in (file_shape t 5) s) id) refl
      by-file e (Err q) c =
          subst Kept (quote-of t s id seconds metres e (Err q) c) (record { size = omega arith; number = Memᴰ.tail (Memᴰ.tail (Memᴰ.head refl)) })

      by-ride : (b : Bool) → short seconds metres ≡ b → Kept (quote_of t s id seconds metres)
      by-ride true e = by-file e (clean_of t 5 s) refl
      by-ride false e = subst Kept (quote-long t s id seconds metres e) (record { size = omega arith; number = Memᴰ.tail (Memᴰ.head refl) })

  pub sized : Sized t
  sized =
      record {
        sum = λ s id plan seconds metres p e. trip_sum_lem p seconds metres e;
        amount = λ s id seconds metres. (kept s id seconds metres).size;
        fits = sum_room;
        priced = λ s id plan seconds metres p e. quoted p seconds metres e;
        numbers = λ s id seconds metres. (kept s id seconds metres).number;
      }
