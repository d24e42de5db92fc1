-- Past the greatest end nothing more is charged: where every segment has an end, its bound is that end for every ride at or past it. So the
-- charges are those at the greatest end, and the mark says so.
use mathlib.Core.Bool.{Bool, true, false, true≢false, ◌&&◌}
use mathlib.Core.List.{List, [], ◌∷◌}
use mathlib.Core.Path.{◌≡◌, refl, sym, ap, ap₂, ◌∙◌}
use Prim.Native.Nat.{ℕ, ◌≤◌}
use native.Mathlib.Omega.{arith}
use lib.Dec.{leb}
use lib.IntN.{ℤ, pos, ◌+ℤ◌, ◌*ℤ◌}
use borrow.Author.Tests.{le-leb, leb-true, eqb-true}
use Rattle.std.specs.Prelude.{Option, None, Some, is_some, unwrap_or, ◌==◌, length, max}
use Rattle.std.specs.Option.{option_map_or}
use Rattle.std.proofs.lemmas.Bool.Decides.{nat_tests}
use Rattle.std.specs.List.{list_all}
use Rattle.notation.specs.Choice.{◌and◌}
use Rattle.notation.proofs.Booleans.{and_left, and_right}
use Rattle.decimal.specs.Exact.{ten_thousandths}
use Rattle.fare.specs.declared.Minutes.{Minutes}
use Rattle.fare.specs.declared.Kilometres.{Kilometres}
use Rattle.fare.specs.declared.Segment.{Segment}
use Rattle.fare.specs.Charges.{charge, charges, sum, amount, all_ended, greatest_end, past}
use Rattle.fare.specs.inner.Folds.{count_below, has_ended}
use Rattle.fare.proofs.Moments.{bound_end, moments-counted}

charge-past : (s : Segment) (a b : ℕ) → is_some s.end ≡ true → unwrap_or s.end 0 ≤ a → unwrap_or s.end 0 ≤ b → charge s a ≡ charge s b
unfolding charge
charge-past s a b e h k =
    ap (λ (n : ℕ). ten_thousandths s.rate *ℤ pos n)
    (moments-counted s a
    ∙ ap (λ (bound : ℕ). count_below bound s.start s.interval) (bound_end s a e h ∙ sym (bound_end s b e k))
    ∙ sym (moments-counted s b))

pub charges-same : (l : List Segment) (a b : ℕ) → all_ended l ≡ true → greatest_end l ≤ a → greatest_end l ≤ b → charges l a ≡ charges l b
unfolding charges all_ended greatest_end
charges-same [] a b e h k = refl
charges-same (s ∷ l) a b e h k =
    ap₂ ◌+ℤ◌ (charge-past s a b (and_left (is_some s.end) (all_ended l) e) (omega arith) (omega arith))
    (charges-same l a b (and_right (is_some s.end) (all_ended l) e) (omega arith) (omega arith))

pub charges-past : (l : List Segment) (ride : ℕ) → all_ended l ≡ true → greatest_end l ≤ ride → charges l ride ≡ charges l (greatest_end l)
charges-past l ride e h = charges-same l ride (greatest_end l) e h (omega arith)

-- the mark is set, and only then
pub past-set : (s : Segment) (l : List Segment) (ride : ℕ) → all_ended (s ∷ l) ≡ true → greatest_end (s ∷ l) ≤ ride → past (s ∷ l) ride ≡ true
unfolding past
past-set s l ride e h = rw (e, le-leb (greatest_end (s ∷ l)) ride h)

-- which is to say that there is a segment, and each has ended
one-more : (end : Option ℕ) (ended each : Bool) (greatest ride : ℕ) → each ≡ (ended and leb greatest ride)
    → (option_map_or (λ t. leb t ride) end false && each) ≡ ((is_some end and ended) and leb (max (unwrap_or end 0) greatest) ride)
one-more None ended each greatest ride e = refl
one-more (Some end) true each greatest ride e = rw e (grind (arith, nat_tests))
one-more (Some end) false each greatest ride e = rw e (grind (arith, nat_tests))

each-ended : (l : List Segment) (ride : ℕ) → list_all (has_ended ride) l ≡ (all_ended l and leb (greatest_end l) ride)
unfolding all_ended greatest_end
each-ended [] ride = sym (le-leb 0 ride (omega arith))
each-ended (s ∷ l) ride = one-more s.end (all_ended l) (list_all (has_ended ride) l) (greatest_end l) ride (each-ended l ride)

pub past-none : (l : List Segment) (ride : ℕ) → (length l == 0) ≡ true → false ≡ past l ride
unfolding past
past-none [] ride e = refl
past-none (s ∷ l) ride e = let h : length (s ∷ l) ≡ 0 = eqb-true _ _ e in absurd (omega arith)

pub past-each : (l : List Segment) (ride : ℕ) → (length l == 0) ≡ false → list_all (has_ended ride) l ≡ past l ride
unfolding past
past-each [] ride e = absurd (true≢false e)
past-each (s ∷ l) ride e = each-ended (s ∷ l) ride

pub past-ends : (l : List Segment) (ride : ℕ) → past l ride ≡ true → (all_ended l ≡ true) × (greatest_end l ≤ ride)
unfolding past
past-ends [] ride e = absurd (true≢false (sym e))
past-ends (s ∷ l) ride e =
    (and_left _ (leb (greatest_end (s ∷ l)) ride) e, leb-true _ _ (and_right (all_ended (s ∷ l)) _ e))

pub marked-charges : (l : List Segment) (ride : ℕ) → past l ride ≡ true → charges l ride ≡ charges l (greatest_end l)
marked-charges l ride e = let m = past-ends l ride e in charges-past l ride m.0 m.1

-- so a marked amount is the one at the greatest end
module _ (price : ℤ) (per_minute per_kilometre : List Segment) (minutes : Minutes) (kilometres : Kilometres) where
  pub amount-past-minutes : past per_minute minutes.count ≡ true
      → amount price per_minute per_kilometre minutes kilometres
      ≡ amount price per_minute per_kilometre (record { count = greatest_end per_minute }) kilometres
  unfolding sum amount
  amount-past-minutes e = rw (marked-charges per_minute minutes.count e)

  pub amount-past-kilometres : past per_kilometre kilometres.count ≡ true
      → amount price per_minute per_kilometre minutes kilometres
      ≡ amount price per_minute per_kilometre minutes (record { count = greatest_end per_kilometre })
  unfolding sum amount
  amount-past-kilometres e = rw (marked-charges per_kilometre kilometres.count e)
