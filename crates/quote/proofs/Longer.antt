-- The promises on longer rides. A plan in a clean file is quoted with its amount for every ride within the ceilings (`Size`), so what holds of amounts and marks
-- (`fare/proofs/Longer`) holds of the answers; and only such an answer has a mark, so a marked answer alone tells that there is such a plan.
use mathlib.Core.Bool.{true}
use mathlib.Core.List.{List}
use mathlib.Core.Path.{◌≡◌, refl, sym, ap, ◌∙◌}
use Prim.Native.Nat.{ℕ}
use native.Mathlib.Omega.{arith}
use borrow.Author.Tests.{le-leb}
use Rattle.schema.specs.Shape.{Table, file_shape}
use Rattle.schema.specs.Tables.{table_at}
use Rattle.schema.specs.Pick.{Picked}
use Rattle.decimal.specs.Exact.{ten_thousandths}
use Rattle.fare.proofs.Longer.{amount-longer, amount-settled, past-settled, settled-past}
use Rattle.clean.specs.Clean.{records_in, clean_of}
use Rattle.quote.specs.Plan.{price_at, per_minute, per_kilometre, plan_of, trip_amount, past_minutes, past_kilometres}
use Rattle.quote.specs.Quote.{most_seconds, most_metres, Answer, priced, clean_quote, short, quote_of}
use Rattle.quote.specs.Size.{PlanIn}
use Rattle.quote.specs.Longer.{NoNegativeRates, Ride, quote_for, Short, NotShorter, NoFewer, AllSettled, InOrder, LongerRides}
use Rattle.quote.proofs.Files.{short-both}
use Rattle.quote.proofs.Size.{sized}
use Rattle.quote.proofs.Asked.{passed}

-- what a plan answers
abbrev plan_answer : Picked → Ride → Answer
plan_answer plan a = priced (trip_amount plan a.seconds a.metres) (past_minutes plan a.seconds) (past_kilometres plan a.metres)

-- a ride of no fewer seconds and metres has no fewer minutes and kilometres, and is within the ceilings where the longer one is
measured : {a b : Ride} → NoFewer a b → NotShorter a b
measured l = record { minutes = omega (arith, l.seconds); kilometres = omega (arith, l.metres) }

shorter : {a b : Ride} → NoFewer a b → Short b → Short a
unfolding short
shorter {a} {b} l k =
    let m = short-both b.seconds b.metres k in
    rw (le-leb a.seconds most_seconds (omega (arith, l.seconds, m.0)), le-leb a.metres most_metres (omega (arith, l.metres, m.1)), short)

-- by a table
module _ (table : ℕ) where
  abbrev t : Table
  t = table_at table

  module _ {s id : List ℕ} {plan : Picked} (p : PlanIn t s id plan) where
    quoted : (a : Ride) → Short a → quote_for t s id a ≡ plan_answer plan a
    quoted a h = (sized table).priced s id plan a.seconds a.metres p h

    module _ {a b : Ride} (h : Short a) (k : Short b) (l : NotShorter a b) where
      in_order_lem : NoNegativeRates plan → InOrder (quote_for t s id a) (quote_for t s id b)
      unfolding trip_amount
      in_order_lem n =
          record {
            first = ap (λ (x : Answer). x.number) (quoted a h);
            second = ap (λ (x : Answer). x.number) (quoted b k);
            amounts =
                rw (quoted a h, quoted b k)
                (amount-longer (ten_thousandths (price_at plan)) (per_minute plan) (per_kilometre plan) l.minutes l.kilometres n.minutes n.kilometres);
          }

      stays : AllSettled plan a → quote_for t s id b ≡ quote_for t s id a
      unfolding trip_amount past_minutes past_kilometres
      stays e = quoted b k ∙ sym (quoted a h ∙ same)
        where
          same : plan_answer plan a ≡ plan_answer plan b
          same =
              rw (
                amount-settled (ten_thousandths (price_at plan)) (per_minute plan) (per_kilometre plan) l.minutes l.kilometres e.minutes e.kilometres,
                past-settled (per_minute plan) _ _ l.minutes e.minutes,
                past-settled (per_kilometre plan) _ _ l.kilometres e.kilometres,
              )

  -- the marks of one answer tell that there is such a plan
  past-both : (s id : List ℕ) (a b : Ride) → (quote_for t s id a).past_minutes ≡ true → (quote_for t s id a).past_kilometres ≡ true → Short b → NotShorter a b
      → quote_for t s id b ≡ quote_for t s id a
  unfolding clean_quote quote_of past_minutes past_kilometres
  past-both s id a b m k h l =
      let through = passed (λ (x : Answer). x.past_minutes) refl (λ q. refl) refl (short a.seconds a.metres) (clean_of t 5 s) (plan_of (records_in (file_shape t 5) s) id) a.seconds a.metres m in
      let plan = through.plan in
      let p : PlanIn t s id plan = record { clean = through.clean; found = through.found } in
      let is = quoted p a through.brief in
      stays p through.brief h l
      (record {
        minutes = settled-past (per_minute plan) _ (sym (ap (λ (x : Answer). x.past_minutes) is) ∙ m);
        kilometres = settled-past (per_kilometre plan) _ (sym (ap (λ (x : Answer). x.past_kilometres) is) ∙ k);
      })

  pub longer_rides : LongerRides t
  longer_rides =
      record {
        never_less = λ s id plan a b p n h k l. in_order_lem p h k l n;
        never_less_measured = λ s id plan a b p n k l. in_order_lem p (shorter l k) k (measured l) n;
        past_both = past-both;
        settled = λ s id plan a b p e h k l. stays p h k l e;
      }
