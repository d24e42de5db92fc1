-- Demand 2 on prices. A quote asks in order whether the ride is short, the file clean and the plan there, and gives the plan's price where all three hold.
-- A ride past the ends is quoted as the shortest that is, which passes them too.
use mathlib.Core.Bool.{Bool, true, false}
use mathlib.Core.List.Memᴰ
use mathlib.Core.List.{List, [], ◌∷◌, Memᴰ}
use mathlib.Core.Logic.{⊎_elim}
use mathlib.Core.Path.{◌≡◌, refl, sym, ap, ◌∙◌}
use Prim.Native.Nat.{ℕ, ◌*◌, ◌/◌, ◌≤◌}
use native.Mathlib.Omega.{arith}
use lib.Dec.{eqb, leb}
use lib.IntN.{pos}
use lib.Signed.{le_z}
use borrow.Author.Tests.{leb-true, le-leb, eq-eqb}
use Rattle.std.specs.Prelude.{Option, None, Some, is_some, unwrap_or, IsSome, IfSome}
use Rattle.word.specs.declared.Parts.{Parts}
use Rattle.notation.proofs.Booleans.{true-false, and_left, and_right}
use Rattle.schema.specs.Shape.{Table, file_shape}
use Rattle.schema.specs.Pick.{Picked}
use Rattle.decimal.specs.Exact.{ten_thousandths}
use Rattle.fare.specs.declared.Segment.{Segment}
use Rattle.fare.specs.Charges as charges
use Rattle.fare.specs.Charges.{minutes_of, kilometres_of, sum, amount, all_ended, greatest_end}
use Rattle.fare.proofs.Past as ends
use Rattle.fare.proofs.Amounts.{amount-natural}
use Rattle.clean.specs.Clean.{records_in, clean_of}
use Rattle.quote.specs.Plan.{price_at, per_minute, per_kilometre, trip_amount, past_minutes, past_kilometres}
use Rattle.quote.specs.Quote.{Answer, plan_quote, clean_quote, short, quote_of, most_seconds, most_metres, refused, unclean}
use Rattle.quote.proofs.Asked.{asked, Passed, passed}
use Rattle.quote.proofs.Past as past
use Rattle.quote.proofs.Past.{ended-minutes, ended-kilometres}
use Rattle.verdict.specs.Demand2.{plan_in, fare, PastEnds}
use Rattle.fault.specs.Outcome.{Outcome, unbroken}
use Rattle.std.specs.Prelude.{Err, Ok, Option, None, Some}

-- whatever it answers, the amount is not negative
asked_natural : (t : Bool) (c : Outcome) (m : Option Picked) (seconds metres : ℕ) → le_z (pos 0) (asked t c m seconds metres).amount ≡ true
unfolding trip_amount
asked_natural false c m seconds metres = refl
asked_natural true (Err p) m seconds metres = refl
asked_natural true (Ok _) None seconds metres = refl
asked_natural true (Ok _) (Some plan) seconds metres =
    amount-natural (ten_thousandths (price_at plan)) (per_minute plan) (per_kilometre plan) (minutes_of seconds) (kilometres_of metres)

-- a mark that a quote gives, and no refusal has, is its plan's
asked_mark : (mark : Answer → Bool) → mark (refused 4) ≡ false → ((p : Parts) → mark (unclean p) ≡ false) → mark (refused 6) ≡ false
    → (t : Bool) (c : Outcome) (m : Option Picked) (seconds metres : ℕ) (plan : Picked) → m ≡ Some plan → mark (asked t c m seconds metres) ≡ true
    → mark (plan_quote seconds metres (Some plan)) ≡ true
asked_mark mark long broken absent t c m seconds metres plan f e =
    let p = passed mark long broken absent t c m seconds metres e in rw (p.brief, p.clean, f) at e

-- segments that have all ended
all-ended : (l : List Segment) → ((x : Segment) → Memᴰ x l → IsSome x.end) → all_ended l ≡ true
unfolding all_ended
all-ended [] h = refl
all-ended (x ∷ l) h = rw (h x (Memᴰ.head refl), all_ended) (all-ended l (λ y m. h y (Memᴰ.tail m)))

end_over : (o : Option ℕ) (n : ℕ) → IfSome o (λ end. end ≤ n) → unwrap_or o 0 ≤ n
end_over None n h = omega arith
end_over (Some end) n h = h

over_end : (o : Option ℕ) (n : ℕ) → unwrap_or o 0 ≤ n → IfSome o (λ end. end ≤ n)
over_end None n h = tt
over_end (Some end) n h = h

greatest-end : (l : List Segment) (ride : ℕ) → ((x : Segment) → Memᴰ x l → IfSome x.end (λ end. end ≤ ride)) → greatest_end l ≤ ride
unfolding greatest_end
greatest-end [] ride h = omega arith
greatest-end (x ∷ l) ride h =
    let a = end_over x.end ride (h x (Memᴰ.head refl)) in let b = greatest-end l ride (λ y m. h y (Memᴰ.tail m)) in omega arith

past-ends : (l : List Segment) (ride : ℕ) → PastEnds l ride → past.Ended l ride
past-ends [] ride e = absurd (e.there refl)
past-ends (x ∷ l) ride e = record { first = x; others = l; are = refl; ended = all-ended (x ∷ l) e.ended; late = greatest-end (x ∷ l) ride e.over }

-- a mark is set at and past every end of segments that all end
ended-each : (l : List Segment) → all_ended l ≡ true → (x : Segment) → Memᴰ x l → IsSome x.end
unfolding all_ended
ended-each [] e x m = absurd (Memᴰ.not-nil m)
ended-each (y ∷ l) e x m =
    let rest = ended-each l (and_right (is_some y.end) (all_ended l) e) x in
    ⊎_elim (λ (p : x ≡ y). ap (λ (z : Segment). is_some z.end) p ∙ and_left (is_some y.end) (all_ended l) e) rest (Memᴰ.cases_cons m)

end-most : (l : List Segment) (x : Segment) → Memᴰ x l → unwrap_or x.end 0 ≤ greatest_end l
unfolding greatest_end
end-most [] x m = absurd (Memᴰ.not-nil m)
end-most (y ∷ l) x m =
    let rest = end-most l x in
    ⊎_elim (λ (p : x ≡ y). let q = ap (λ (z : Segment). unwrap_or z.end 0) p in omega arith) (λ (k : Memᴰ x l). let h = rest k in omega arith) (Memᴰ.cases_cons m)

some-marked : (l : List Segment) (ride : ℕ) → charges.past l ride ≡ true → l ≡ [] → ⊥
unfolding charges.past
some-marked [] ride e p = true-false e refl
some-marked (x ∷ l) ride e p = let z : ◌≡◌ {A = ℕ} 0 1 = cc in omega arith

marked-ends : (l : List Segment) (ride : ℕ) → charges.past l ride ≡ true → PastEnds l ride
marked-ends l ride e =
    let k = ends.past-ends l ride e in
    record {
      there = some-marked l ride e;
      ended = ended-each l k.0;
      over = λ x m. let h = end-most l x m in over_end x.end ride (omega (arith, k.1));
    }

-- the same of a ride of another length that is past the ends
ended_at : {l : List Segment} {a : ℕ} (b : ℕ) → greatest_end l ≤ b → past.Ended l a → past.Ended l b
ended_at b h e = record { first = e.first; others = e.others; are = e.are; ended = e.ended; late = h }

module _ (t : Table) (s id : List ℕ) where
  -- the plans of the file
  abbrev plans : List Picked
  plans = records_in (file_shape t 5) s

  quote-clean : (seconds metres : ℕ) → short seconds metres ≡ true → clean_of t 5 s ≡ unbroken → quote_of t s id seconds metres ≡ clean_quote plans id seconds metres
  unfolding quote_of
  quote-clean seconds metres h c = rw (h, c)

  pub price : (seconds metres : ℕ) (plan : Picked) → seconds ≤ most_seconds → metres ≤ most_metres → clean_of t 5 s ≡ unbroken
      → plan_in t s id ≡ Some plan → quote_of t s id seconds metres ≡ fare plan seconds metres
  unfolding short clean_quote trip_amount sum amount past_minutes past_kilometres
  price seconds metres plan a b c found =
      let brief : short seconds metres ≡ true = rw (le-leb seconds most_seconds a, le-leb metres most_metres b, short) in
      quote-clean seconds metres brief c ∙ ap (plan_quote seconds metres) found

  pub no_credit_lem : (seconds metres : ℕ) → le_z (pos 0) (quote_of t s id seconds metres).amount ≡ true
  unfolding quote_of clean_quote
  no_credit_lem seconds metres = asked_natural (short seconds metres) (clean_of t 5 s) (plan_in t s id) seconds metres

  pub marked-minutes-ends : (seconds metres : ℕ) (plan : Picked) → plan_in t s id ≡ Some plan → (quote_of t s id seconds metres).past_minutes ≡ true
      → PastEnds (per_minute plan) (seconds / 60)
  unfolding quote_of clean_quote past_minutes
  marked-minutes-ends seconds metres plan found e =
      marked-ends (per_minute plan) (seconds / 60)
      (asked_mark (λ (x : Answer). x.past_minutes) refl (λ p. refl) refl (short seconds metres) (clean_of t 5 s) (plan_in t s id) seconds metres plan found e)

  pub marked-kilometres-ends : (seconds metres : ℕ) (plan : Picked) → plan_in t s id ≡ Some plan → (quote_of t s id seconds metres).past_kilometres ≡ true
      → PastEnds (per_kilometre plan) (metres / 1000)
  unfolding quote_of clean_quote past_kilometres
  marked-kilometres-ends seconds metres plan found e =
      marked-ends (per_kilometre plan) (metres / 1000)
      (asked_mark (λ (x : Answer). x.past_kilometres) refl (λ p. refl) refl (short seconds metres) (clean_of t 5 s) (plan_in t s id) seconds metres plan found e)

  module _ (seconds metres : ℕ) (e : (quote_of t s id seconds metres).number ≡ 0) where
    through : Passed (short seconds metres) (clean_of t 5 s) (plan_in t s id)
    unfolding quote_of clean_quote
    through =
        passed (λ (x : Answer). eqb x.number 0) refl (λ p. refl) refl (short seconds metres) (clean_of t 5 s) (plan_in t s id) seconds metres
        (eq-eqb (quote_of t s id seconds metres).number 0 e)

    by-plan : quote_of t s id seconds metres ≡ clean_quote plans id seconds metres
    by-plan = quote-clean seconds metres through.brief through.clean

    pub price-given : (seconds ≤ most_seconds) × (metres ≤ most_metres) × (clean_of t 5 s ≡ unbroken)
        × (plan : Picked) × (plan_in t s id ≡ Some plan) × (quote_of t s id seconds metres ≡ fare plan seconds metres)
    unfolding short clean_quote trip_amount sum amount past_minutes past_kilometres
    price-given =
        let a = leb-true seconds most_seconds (and_left (leb seconds most_seconds) _ through.brief) in
        let b = leb-true metres most_metres (and_right (leb seconds most_seconds) _ through.brief) in
        (a, b, through.clean, through.plan, through.found, by-plan ∙ ap (plan_quote seconds metres) through.found)

    module _ (plan : Picked) (found : plan_in t s id ≡ Some plan) where
      pub past-minutes : PastEnds (per_minute plan) (seconds / 60)
          → (quote_of t s id seconds metres ≡ quote_of t s id (greatest_end (per_minute plan) * 60) metres) × ((quote_of t s id seconds metres).past_minutes ≡ true)
      unfolding short
      past-minutes over =
          let last = greatest_end (per_minute plan) * 60 in
          let p = past-ends (per_minute plan) (seconds / 60) over in let late = p.late in
          let a = leb-true seconds most_seconds (and_left (leb seconds most_seconds) _ through.brief) in
          let brief : short last metres ≡ true = rw (le-leb last most_seconds (omega arith), short) (and_right (leb seconds most_seconds) _ through.brief) in
          let one = by-plan ∙ ended-minutes plans id found seconds metres p in
          let two = quote-clean last metres brief through.clean ∙ ended-minutes plans id found last metres (ended_at (last / 60) (omega arith) p) in
          (one ∙ sym two, ap (λ (x : Answer). x.past_minutes) one)

      pub past-kilometres : PastEnds (per_kilometre plan) (metres / 1000)
          → (quote_of t s id seconds metres ≡ quote_of t s id seconds (greatest_end (per_kilometre plan) * 1000)) × ((quote_of t s id seconds metres).past_kilometres ≡ true)
      unfolding short
      past-kilometres over =
          let last = greatest_end (per_kilometre plan) * 1000 in
          let p = past-ends (per_kilometre plan) (metres / 1000) over in let late = p.late in
          let a = leb-true metres most_metres (and_right (leb seconds most_seconds) _ through.brief) in
          let brief : short seconds last ≡ true = rw (and_left (leb seconds most_seconds) _ through.brief, short) (le-leb last most_metres (omega arith)) in
          let one = by-plan ∙ ended-kilometres plans id found seconds metres p in
          let two = quote-clean seconds last brief through.clean ∙ ended-kilometres plans id found seconds last (ended_at (last / 1000) (omega arith) p) in
          (one ∙ sym two, ap (λ (x : Answer). x.past_kilometres) one)
